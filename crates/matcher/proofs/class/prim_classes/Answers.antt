use Rattle.std.proofs.Common.{◌≡◌, subst, sym, ⊎_elim}
use Rattle.std.specs.Int.{bit_at}
use Rattle.matcher.specs.Class.{PrimMayBe}
use Rattle.matcher.proofs.Classes.{all_bits, or_one, or_two}
use Rattle.matcher.proofs.class.prim_classes.Goals as goal

pub returns-in-Number : goal.returns-in-Number
returns-in-Number c = λ k l h.
    let one = c.only-in-Number.ensures in
    let two = c.only-in-Number-2.ensures in
    ⊎_elim
    (λ e. or_one _ _ k (subst (λ i. bit_at c.only-in-Number.result i ≡ 1) (sym e) one))
    (λ e. or_two _ _ k (subst (λ i. bit_at c.only-in-Number-2.result i ≡ 1) (sym e) two))
    (subst (λ p. PrimMayBe p k) c.in-Number.is h)

pub returns-in_default : goal.returns-in_default
returns-in_default c = λ k l _. all_bits k l
