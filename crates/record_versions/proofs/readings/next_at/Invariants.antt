use Rattle.std.proofs.Common.{length, List, ℕ}
use Rattle.record_versions.specs.Readings.{IsAhead}
use Rattle.record_versions.specs.Rows.{Row}
use Rattle.record_versions.proofs.Passing.{Passed}
use Rattle.record_versions.proofs.readings.next_at.Given as goal

abbrev pub invariant-loop-id : goal.invariant-loop-id
invariant-loop-id g l = (from : ℕ) (chains : List (ℕ × Row g.row.V.Denot)) → IsAhead from chains l.fn.ahead
    → Passed l.version from chains l.ahead

abbrev pub decreases-loop-id : goal.decreases-loop-id
decreases-loop-id g l = length l.ahead
