use Rattle.ring_find.specs.Bridges.{AreTaken}
use Rattle.ring_find.proofs.bridges.is_forest.Given as goal

abbrev pub invariant-loop-place : goal.invariant-loop-place
invariant-loop-place l = AreTaken l.ends l.labels l.taken.items l.place
