use Rattle.ring_find.specs.Strip.{is_kept}
use Rattle.ring_find.proofs.Strips.{KeptSoFar}
use Rattle.ring_find.proofs.strip.only_kept.Given as goal

abbrev pub invariant-loop-step : goal.invariant-loop-step
invariant-loop-step l = KeptSoFar l.steps (is_kept l.kept) l.step-index l.only
