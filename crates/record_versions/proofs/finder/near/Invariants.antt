use Rattle.std.proofs.Common.{List, ℕ}
use Rattle.record_versions.specs.Ahead.{AreOwn}
use Rattle.record_versions.specs.Rows.{Row}
use Rattle.record_versions.proofs.finder.near.Given as goal

abbrev pub invariant-loop-turn : goal.invariant-loop-turn
invariant-loop-turn g l = (all : List (ℕ × Row g.row.V.Denot)) → AreOwn all l.fn.ahead → AreOwn all l.ahead
