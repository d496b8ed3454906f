use Rattle.ring_find.specs.BondRings.{KeepsRings}
use Rattle.ring_find.proofs.bridges.drop_between.Given as goal

abbrev pub invariant-loop-place : goal.invariant-loop-place
invariant-loop-place l = KeepsRings l.ends l.kept
