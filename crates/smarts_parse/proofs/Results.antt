-- Results and tests.
use Rattle.std.proofs.Common.{◌≡◌, Bool, true, ◌||◌, Result, Ok, Err, sym, ◌∙◌, ap, subst}
use Rattle.std.specs.Result.{IfErr}

pub if_err : {X Y : Type 0} (Q : Y → Type 0) (r : Result X Y) (e : Y) → r ≡ Err e → Q e → IfErr r Q
if_err Q (Ok x) e k q = absurd (cc)
if_err Q (Err y) e k q = let j : e ≡ y = cc in subst Q j q

pub or_true : (a b r : Bool) → a ≡ true → r ≡ a → r ≡ (a || b)
or_true a b r e f = f ∙ e ∙ ap (λ v. v || b) (sym e)
