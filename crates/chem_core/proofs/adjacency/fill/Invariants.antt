use Rattle.std.proofs.Common.{length, map, take}
use Rattle.chem_core.proofs.StepsFilled.{AreFilled}
use Rattle.chem_core.proofs.adjacency.fill.Given as goal

abbrev pub invariant-loop-place : goal.invariant-loop-place
invariant-loop-place l = AreFilled (length l.fn.lists) (take l.place l.ends) (map (λ v. v.items) l.lists)
