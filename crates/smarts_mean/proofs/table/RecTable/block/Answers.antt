use Rattle.std.proofs.Common.{◌≡◌, ◌+◌, ◌*◌, ◌<◌, length, arith}
use Rattle.smarts_mean.proofs.Bits.{block_read}
use Rattle.smarts_mean.proofs.table.RecTable.block.Goals as goal

pub returns : goal.returns
returns c =
    let words = c.self.inside.words.items in
    let size : length words ≡ 1024 = c.self.invariant in
    let within : 16 * c.args.part + c.args.block < length words = omega arith in
    rw (← c.self.view_is)
    (λ i l. block_read words c.args.part c.args.block i c.index.result.now l within
    (rw c.from.ensures at c.index.ensures))
