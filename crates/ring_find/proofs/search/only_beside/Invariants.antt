use Rattle.ring_find.specs.Strip.{is_beside}
use Rattle.ring_find.proofs.Strips.{KeptSoFar}
use Rattle.ring_find.proofs.search.only_beside.Given as goal

abbrev pub invariant-loop-step : goal.invariant-loop-step
invariant-loop-step l = KeptSoFar l.steps (is_beside l.kept l.bond) l.step-index l.only
