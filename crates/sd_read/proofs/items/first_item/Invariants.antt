use Rattle.std.proofs.Common.{◌≡◌, length, false}
use Rattle.sd_read.specs.Items.{first_named, items_in, items_of}
use Rattle.sd_read.proofs.items.first_item.Given as goal

abbrev pub invariant-loop-line : goal.invariant-loop-line
invariant-loop-line l = first_named l.name (items_in false l.lines) ≡ first_named l.name (items_of l.text)

abbrev pub decreases-loop-line : goal.decreases-loop-line
decreases-loop-line l = length l.lines
