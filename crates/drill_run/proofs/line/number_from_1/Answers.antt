use Rattle.std.proofs.Common.{◌≡◌, ◌∙◌, arith, sym}
use Rattle.std.proofs.lemmas.Fmt.{decimal_injective}
use Rattle.drill_run.proofs.line.number_from_1.Goals as goal

-- a number that is read is no other, and this one is 0
pub returns-in_default-clause-none : goal.returns-in_default-clause-none
returns-in_default-clause-none c n some few e =
    let small = c.in-Some.ensures.some.0 in
    let same : c.in-Some.number ≡ n =
    decimal_injective c.in-Some.number n (omega (arith, small, c.ranges.most.fits))
    (omega (arith, few, c.ranges.most.fits)) (sym c.in-Some.ensures.some.1 ∙ e) in
    omega (arith, same, some, c.if-number-ge1.false)
