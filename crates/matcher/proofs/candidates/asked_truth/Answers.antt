use Rattle.std.proofs.Common.{arith}
use Rattle.std.proofs.lemmas.Bool.{iff_false}
use Rattle.smarts_mean.specs.Table.{HoldsIn}
use Rattle.matcher.proofs.HalfTruths.{half_all, half_false, half_none, half_true, half_whole, next_inside}
use Rattle.matcher.proofs.candidates.asked_truth.Goals as goal

pub loop-turn-init : goal.loop-turn-init
loop-turn-init c = half_none (HoldsIn c.args.table.now) c.args.mol.now c.args.prim c.args.block c.args.within
    c.all_in.result c.all_in.ensures

pub prim_true-requires-clause-in_range : goal.prim_true-requires-clause-in_range
prim_true-requires-clause-in_range c = next_inside _ _ _ _ _ c.loop-turn._turn c.loop-turn.left c.loop-turn.word
    (omega arith) (omega arith) c.loop-turn.invariant

pub loop-turn-preserved : goal.loop-turn-preserved
loop-turn-preserved c = half_false _ _ _ _ _ c.loop-turn._turn c.loop-turn.left c.loop-turn.word (omega arith)
    (omega arith) (λ w. iff_false c.prim_true.ensures c.if-prim_true.false w) c.loop-turn.invariant

pub loop-turn-preserved-then-prim_true : goal.loop-turn-preserved-then-prim_true
loop-turn-preserved-then-prim_true c = half_true _ _ _ _ _ c.loop-turn._turn c.loop-turn.left c.loop-turn.word
    (omega arith) (omega arith) (c.prim_true.ensures.0 c.if-prim_true.true) c.loop-turn.invariant

pub returns-then-bit-ge64 : goal.returns-then-bit-ge64
returns-then-bit-ge64 c = half_all _ _ _ _ _ c.loop-turn._turn c.loop-turn.left c.loop-turn.word (omega arith)
    (omega arith) c.loop-turn.invariant

pub returns : goal.returns
returns c = half_whole _ _ _ _ _ c.loop-turn._turn c.loop-turn.left c.loop-turn.word
    (omega (arith, c.loop-turn-test.false)) c.loop-turn.invariant
