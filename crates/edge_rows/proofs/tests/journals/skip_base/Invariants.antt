use Rattle.std.proofs.Common.{◌≡◌, false}
use Rattle.edge_rows.proofs.tests.journals.skip_base.Given as goal

abbrev pub invariant-loop-count : goal.invariant-loop-count
invariant-loop-count g l = l.journal.doubt ≡ false
