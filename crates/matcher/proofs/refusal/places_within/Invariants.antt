use Rattle.std.proofs.Common.{◌≡◌, count_by, take}
use Rattle.matcher.specs.Class.{is_within}
use Rattle.matcher.proofs.refusal.places_within.Given as goal

-- how many of the steps so far have no classes but these
abbrev pub invariant-loop-step : goal.invariant-loop-step
invariant-loop-step l = l.count ≡ count_by (is_within l.classes) (take l.step-index l.steps)
