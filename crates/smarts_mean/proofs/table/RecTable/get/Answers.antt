use Rattle.std.proofs.Common.{◌≡◌, ◌+◌, ◌*◌, ◌/◌, ◌<◌, length, arith}
use Rattle.smarts_mean.proofs.Bits.{entry_read}
use Rattle.smarts_mean.proofs.table.RecTable.get.Goals as goal

pub returns : goal.returns
returns c =
    let words = c.self.inside.words.items in
    let size : length words ≡ 1024 = c.self.invariant in
    let within : 16 * c.args.part + c.args.atom / 64 < length words = omega arith in
    rw (← c.self.view_is) (entry_read words c.args.part c.args.atom c.index-word.result.now within
    (rw (c.from.ensures, c.from-2.ensures) at c.index-word.ensures))
