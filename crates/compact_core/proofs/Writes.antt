-- What a write leaves, whatever it answers.
use Rattle.std.proofs.Common.{◌≡◌, ℕ, List, length, Option, Some, None, Result, Ok, Err, OnOk, refl, ◌∙◌, ap, subst}
use Rattle.disk_edge.specs.Disk.{DiskModel, written, Torn, Same, Tears, Becomes, TearsContent, Elapses, Keeps, OnFailed, OnNoMemory}
use Rattle.disk_edge.specs.TornLaws.{torn_same, torn_written}
use Rattle.disk_edge.specs.declared.disk.DiskFail.{DiskFail}
use Rattle.disk_edge.specs.declared.disk.DiskFail.TheVariants.{Failed, NoMemory}

-- Each image is an old one, torn; and each old one is still one.
pub record Left {D : Type 0} (model : DiskModel D) (old new : D) (at n : ℕ) : Type 0 where
  pub from : (c : List ℕ) → model.images new c → (d : List ℕ) × model.images old d × Torn at n d c
  pub stays : (c : List ℕ) → model.images old c → model.images new c

module _ {D : Type 0} (model : DiskModel D) (old new : D) (at n : ℕ) where
  pub left_torn : Tears at n (model.images old) (model.images new) → Left model old new at n
  left_torn t = record { from = t.from; stays = λ c i. t.all c c i (torn_same at n c) }

  left_same : Same (model.images old) (model.images new) → Left model old new at n
  left_same s = record { from = λ c i. (c, s.no_more c i, torn_same at n c); stays = s.no_fewer }

  pub left_by : (result : Result (Unit {0}) DiskFail) → OnOk result (Tears at n (model.images old) (model.images new))
      → OnFailed result (Tears at n (model.images old) (model.images new))
      → OnNoMemory result (Same (model.images old) (model.images new)) → Left model old new at n
  left_by (Ok _) ok failed none = left_torn ok
  left_by (Err Failed) ok failed none = left_torn failed
  left_by (Err NoMemory) ok failed none = left_same none

done : (at : ℕ) (bytes : List ℕ) (old new : Option (List ℕ)) → Becomes old new (written at bytes)
    → TearsContent at (length bytes) old new
done at bytes None new b = b
done at bytes (Some l) new b = (written at bytes l, b, torn_written at bytes l)

untouched : (at n : ℕ) (old new : Option (List ℕ)) → new ≡ old → TearsContent at n old new
untouched at n None new same = same
untouched at n (Some l) new same = (l, same, torn_same at n l)

pub content_by : (at : ℕ) (bytes : List ℕ) (old new : Option (List ℕ)) (result : Result (Unit {0}) DiskFail)
    → OnOk result (Becomes old new (written at bytes)) → OnFailed result (TearsContent at (length bytes) old new)
    → OnNoMemory result (new ≡ old) → TearsContent at (length bytes) old new
content_by at bytes old new (Ok _) ok failed none = done at bytes old new ok
content_by at bytes old new (Err Failed) ok failed none = failed
content_by at bytes old new (Err NoMemory) ok failed none = untouched at (length bytes) old new none

pub some_is : (a b : List ℕ) → Some a ≡ Some b → a ≡ b
some_is a b is = cc is

pub told_torn : (at n : ℕ) (old new : Option (List ℕ)) (l : List ℕ) → old ≡ Some l → TearsContent at n old new
    → (k : List ℕ) × (new ≡ Some k) × Torn at n l k
told_torn at n None new l is t = cc is
told_torn at n (Some m) new l is t = (t.0, t.1, subst (λ (x : List ℕ). Torn at n x t.0) (some_is m l is) t.2)

pub told_written : (old new : Option (List ℕ)) (f : List ℕ → List ℕ) (l : List ℕ) → old ≡ Some l → Becomes old new f
    → new ≡ Some (f l)
told_written None new f l is b = cc is
told_written (Some k) new f l is b = b ∙ ap (λ (m : List ℕ). Some (f m)) (some_is k l is)

pub untold_written : (old new : Option (List ℕ)) (f : List ℕ → List ℕ) → Becomes old new f → old ≡ None → new ≡ None
untold_written None new f b is = b
untold_written (Some k) new f b is = cc is

-- what is told afterwards was told before
pub told_before : (old new : Option (List ℕ)) (k : List ℕ) → (old ≡ None → new ≡ None) → new ≡ Some k
    → (l : List ℕ) × (old ≡ Some l)
told_before None new k untold is = let none : new ≡ None = untold refl in cc (none, is)
told_before (Some l) new k untold is = (l, refl)

pub keeps : {D : Type 0} (model : DiskModel D) (old new : D) → Elapses model old new → Keeps model old new
keeps model old new e = record { later = e.later; no_more = e.no_more; no_fewer = e.no_fewer }
