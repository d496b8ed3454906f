use Rattle.std.proofs.Common.{List, ℕ}
use Rattle.io_edge.specs.Lines.{TextLine}
use Rattle.session_run.specs.Underway.{HoldsRecords}
use Rattle.session_run.proofs.Lined.{IsFilling}
use Rattle.session_run.proofs.request.fill.Given as goal

abbrev pub invariant-loop-left : goal.invariant-loop-left
invariant-loop-left l = (count : ℕ) (more : List TextLine)
    → HoldsRecords count more l.fn.left l.fn.part l.fn.text l.fn.records
    → IsFilling count more l.left l.part l.fn.text l.records

abbrev pub decreases-loop-left : goal.decreases-loop-left
decreases-loop-left l = l.left
