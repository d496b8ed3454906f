use Rattle.std.proofs.Common.{arith}
use Rattle.ring_find.proofs.Labels.{taken-all}
use Rattle.ring_find.proofs.bridges.is_forest.Goals as goal

pub returns : goal.returns
returns c = λ _.
    taken-all c.args.ends.now c.args.labels.now c.loop-place.taken.items c.loop-place.place
    (omega (arith, c.loop-place-test.false)) c.loop-place.invariant
