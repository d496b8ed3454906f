-- What holds of the place of a damage, from one result to the next.
use Rattle.std.proofs.Common.{◌≡◌, Err, IsErrAnd, Ok, OnOk, Result, subst, sym, ℕ}
use Rattle.journal_core.specs.Answers.{OnDamaged}
use Rattle.journal_core.specs.declared.faults.LoadFault.{LoadFault}
use Rattle.journal_core.specs.declared.faults.LoadFault.TheVariants as fault

pub on-damaged : {T : Type 0} {P Q : ℕ → Type 0} (r : Result T LoadFault) → ((at : ℕ) → P at → Q at) → OnDamaged r P
    → OnDamaged r Q
on-damaged (Ok x) f p = tt
on-damaged (Err fault.Disk) f p = tt
on-damaged (Err fault.NotAStore) f p = tt
on-damaged (Err (fault.Damaged at)) f p = f at p
on-damaged (Err fault.NoMemory) f p = tt

-- the fault alone counts
pub same-fault : (X Y : Type 0) (P : ℕ → Type 0) (f : LoadFault) → OnDamaged {T = Y} (Err f) P
    → OnDamaged {T = X} (Err f) P
same-fault X Y P fault.Disk p = tt
same-fault X Y P fault.NotAStore p = tt
same-fault X Y P (fault.Damaged at) p = p
same-fault X Y P fault.NoMemory p = tt

pub on-ok : {T E : Type 0} {P Q : Type 0} (r : Result T E) → (P → Q) → OnOk r P → OnOk r Q
on-ok (Ok x) f p = f p
on-ok (Err e) f p = tt

pub on-both : {T E : Type 0} (P Q : Type 0) (r : Result T E) → OnOk r P → OnOk r Q → OnOk r (P × Q)
on-both P Q (Ok x) p q = (p, q)
on-both P Q (Err e) p q = tt

-- by the result of a `?`
pub damaged-after : {X : Type 0} (Y : Type 0) {P Q : ℕ → Type 0} (f : LoadFault) (r : Result X LoadFault)
    → IsErrAnd r (λ e. e ≡ f) → ((at : ℕ) → P at → Q at) → OnDamaged {T = Y} (Err f) P → OnDamaged r Q
damaged-after Y f (Ok x) same to damaged = tt
damaged-after {X} Y {P} {Q} f (Err e) same to damaged =
    subst (λ g. OnDamaged {T = X} (Err g) Q) (sym same)
    (same-fault X Y Q f (on-damaged {T = Y} {P = P} {Q = Q} (Err f) to damaged))

-- what holds of the place, where one is answered
pub damaged-at : (T : Type 0) (f : LoadFault) (at : ℕ) (P : ℕ → Type 0) → f ≡ fault.Damaged at
    → OnDamaged {T = T} (Err f) P → P at
damaged-at T f at P is damage = subst (λ (x : LoadFault). OnDamaged {T = T} (Err x) P) is damage
