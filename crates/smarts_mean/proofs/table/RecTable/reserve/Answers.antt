use Rattle.smarts_mean.proofs.Bits.{no_entry}
use Rattle.smarts_mean.proofs.table.RecTable.reserve.Goals as goal

pub returns : goal.returns
returns c = rw (c.in_ok-vec.ensures.items_if_clones_equal (λ y e. e)) (no_entry 1024)
