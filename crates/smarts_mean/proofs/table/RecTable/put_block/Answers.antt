use Rattle.std.proofs.Common.{◌≡◌, ◌+◌, ◌*◌, ◌<◌, length, arith}
use Rattle.smarts_mean.proofs.Bits.{block_here, block_others}
use Rattle.smarts_mean.proofs.table.RecTable.put_block.Goals as goal

pub returns-clause-here : goal.returns-clause-here
returns-clause-here c =
    let words = c.self.inside.words.items in
    let size : length words ≡ 1024 = c.self.invariant in
    let within : 16 * c.args.part + c.args.block < length words = omega arith in
    rw c.from.ensures (λ i l. block_here words c.args.part c.args.block i c.args.word l within)

pub returns-clause-others : goal.returns-clause-others
returns-clause-others c =
    let words = c.self.inside.words.items in
    rw (← c.self.view_is, c.from.ensures)
    (λ p a _ l out. block_others words c.args.part c.args.block c.args.word p a c.requires.block l out)
