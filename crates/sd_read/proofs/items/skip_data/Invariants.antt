use Rattle.std.proofs.Common.{◌≡◌, ◌≤◌, length, true}
use Rattle.sd_read.specs.Items.{data_end, items_in}
use Rattle.sd_read.proofs.items.skip_data.Given as goal

abbrev pub invariant-loop-line : goal.invariant-loop-line
invariant-loop-line l = record {
  end : data_end l.to l.lines ≡ data_end l.fn.from l.fn.lines;
  items : items_in true l.lines ≡ items_in true l.fn.lines;
  shorter : length l.lines ≤ length l.fn.lines;
}

abbrev pub decreases-loop-line : goal.decreases-loop-line
decreases-loop-line l = length l.lines
