-- What a call on a journal answered.
use Rattle.std.proofs.Common.{◌≡◌, ℕ, List, Option, Some, Result, Ok, Err, OnErr, Vec, subst}
use Rattle.std.specs.declared.alloc.Global.{Global}
use Rattle.journal_core.specs.Answers.{OnDamaged, OnRecord}
use Rattle.journal_core.specs.declared.faults.LoadFault.{LoadFault}
use Rattle.journal_core.specs.declared.faults.LoadFault.TheVariants.{Disk, NotAStore, Damaged, NoMemory}

pub on_damaged : (T U : Type 0) (fault : LoadFault) (P Q : ℕ → Type 0) → ((at : ℕ) → P at → Q at)
    → OnDamaged {T = T} (Err fault) P → OnDamaged {T = U} (Err fault) Q
on_damaged T U Disk P Q f p = tt
on_damaged T U NotAStore P Q f p = tt
on_damaged T U (Damaged at) P Q f p = f at p
on_damaged T U NoMemory P Q f p = tt

pub on_err : {T E : Type 0} (result : Result T E) (P : Type 0) → P → OnErr result P
on_err (Ok _) P p = tt
on_err (Err _) P p = p

pub same_list : (a b : List ℕ) → Some a ≡ Some b → a ≡ b
same_list a b is = cc is

pub at_record : (o : Option (ℕ × Vec ℕ Global)) (r : ℕ × Vec ℕ Global) (P : ℕ → List ℕ → Type 0) → o ≡ Some r
    → OnRecord (Ok o) P → P r.0 r.1.items
at_record o r P is p = subst (λ (x : Option (ℕ × Vec ℕ Global)). OnRecord (Ok x) P) is p
