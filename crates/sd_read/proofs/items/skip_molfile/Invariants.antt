use Rattle.std.proofs.Common.{◌≡◌, length}
use Rattle.sd_read.specs.Items.{behind_end}
use Rattle.sd_read.proofs.items.skip_molfile.Given as goal

abbrev pub invariant-loop-line : goal.invariant-loop-line
invariant-loop-line l = behind_end l.lines ≡ behind_end l.fn.lines

abbrev pub decreases-loop-line : goal.decreases-loop-line
decreases-loop-line l = length l.lines
