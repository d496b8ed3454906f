-- What a journal has, as it is settled and appended to.
use Rattle.std.proofs.Common.{◌≡◌, ◌⊎◌, ◌≤◌, ◌∙◌, Err, false, inl, inr, List, None, Ok, OnErr, Option, refl, Result, Some, sym, true, ℕ}
use Rattle.disk_edge.specs.Disk.{DiskModel, IfTold, Keeps, OnFailed, OnNoMemory}
use Rattle.disk_edge.specs.Moments.{AtEachMoment, two_calls}
use Rattle.disk_edge.specs.declared.disk.DiskFail.{DiskFail}
use Rattle.disk_edge.specs.declared.disk.DiskFail.TheVariants.{Failed, NoMemory}
use Rattle.journal_core.specs.Journal.{Doubts, Rests}
use Rattle.journal_core.specs.Records.{BeforeOrAfter}
use Rattle.journal_core.specs.Standing.{Standing}
use Rattle.disk_pair.specs.Puts.{ShowsDoubt, ShowsOne}
use Rattle.disk_pair.specs.Stands.{Has}

apart : {X : Type 0} → true ≡ false → X
apart e = cc e

-- what is told afterwards was told before
pub told_before : (old new : Option (List ℕ)) → (old ≡ None → new ≡ None) → (l : List ℕ) → new ≡ Some l
    → (k : List ℕ) × (old ≡ Some k)
told_before None new untold l is = let none : new ≡ None = untold refl in cc (none, is)
told_before (Some k) new untold l is = (k, refl)

module _ {D : Type 0} (model : DiskModel D) (old new : Standing D) where
  pub unsettled : (model.content old.disk ≡ None → model.content new.disk ≡ None) → old.doubt ≡ true → new.doubt ≡ true
      → ((fr : List ℕ) (ps : List (List ℕ)) (p : List ℕ) → Doubts model old fr ps p → Doubts model new fr ps p)
      → (fr : List ℕ) (ps : List (List ℕ)) (doubt : Option (List ℕ)) → Has model old fr ps doubt
      → Has model new fr ps doubt
  unsettled untold flag stays ok fr ps None h = apart (sym flag ∙ h.0)
  unsettled untold flag stays ok fr ps (Some p) h = (
    stays,
    λ l is. let k = told_before (model.content old.disk) (model.content new.disk) untold l is in
        ok fr ps p (h.1 k.0 k.1),
  )

-- what holds at each fault
pub on_fault : {T P Q R : Type 0} (r : Result T DiskFail) → (P → Q → R) → OnFailed r P → OnNoMemory r P → OnErr r Q
    → OnErr r R
on_fault (Ok x) f p m q = tt
on_fault (Err Failed) f p m q = f p q
on_fault (Err NoMemory) f p m q = f m q

-- what each image shows
module _ {D : Type 0} (model : DiskModel D) where
  pub settle_shows : (old new : Standing D) → (model.content old.disk ≡ None → model.content new.disk ≡ None)
      → old.doubt ≡ true
      → ((fr : List ℕ) (ps : List (List ℕ)) (p : List ℕ) → Doubts model old fr ps p
      → AtEachMoment model old.disk new.disk (BeforeOrAfter fr ps p))
      → (fr : List ℕ) (ps : List (List ℕ)) (doubt : Option (List ℕ)) → Has model old fr ps doubt
      → IfTold (model.content new.disk) (λ _. AtEachMoment model old.disk new.disk (ShowsDoubt fr ps doubt))
  settle_shows old new untold flag moments fr ps None h = apart (sym flag ∙ h.0)
  settle_shows old new untold flag moments fr ps (Some p) h = λ l is image b.
      let k = told_before (model.content old.disk) (model.content new.disk) untold l is in
      elim (moments fr ps p (h.1 k.0 k.1) image b) [ inl before ↦ inl before | inr after ↦ inr (p, refl, after) ]

  -- first a doubt is ended, then a payload is appended
  pub put_shows : (parts : (d : D) (t v u : ℕ) (c : List ℕ) → t ≤ v → v ≤ u → model.images_between d t u c
      → model.images_between d t v c ⊎ model.images_between d v u c) (old mid new : Standing D)
      → Keeps model old.disk mid.disk → Keeps model mid.disk new.disk
      → (model.content mid.disk ≡ None → model.content new.disk ≡ None)
      → (fr : List ℕ) (ps : List (List ℕ)) (doubt : Option (List ℕ)) (payload : List ℕ) → Has model mid fr ps None
      → IfTold (model.content mid.disk) (λ _. AtEachMoment model old.disk mid.disk (ShowsDoubt fr ps doubt))
      → (Rests model mid fr ps → AtEachMoment model mid.disk new.disk (BeforeOrAfter fr ps payload))
      → IfTold (model.content new.disk) (λ _. AtEachMoment model old.disk new.disk (ShowsOne fr ps doubt payload))
  put_shows parts old mid new first then untold fr ps doubt payload h before moments l is =
      let k = told_before (model.content mid.disk) (model.content new.disk) untold l is in
      two_calls model old.disk mid.disk new.disk (ShowsOne fr ps doubt payload) (parts new.disk) first.later then
      (λ image b. inl (before k.0 k.1 image b))
      (λ image b. elim (moments (h.1 k.0 k.1) image b) [ inl older ↦ inl (inl older) | inr newer ↦ inr newer ])
