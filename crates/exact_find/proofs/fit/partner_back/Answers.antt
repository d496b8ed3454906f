use Rattle.std.proofs.Common.{arith}
use Rattle.exact_find.proofs.Flips.{none-paired_back}
use Rattle.exact_find.proofs.fit.partner_back.Goals as goal

pub returns-clause-none : goal.returns-clause-none
returns-clause-none c = none-paired_back c.args.pairs.now c.args.atom
    (λ k h. c.loop-pair.invariant k (omega (arith, h, c.loop-pair-test.false)))
