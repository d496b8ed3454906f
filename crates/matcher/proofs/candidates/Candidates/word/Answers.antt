use Rattle.std.proofs.Common.{◌≡◌, ◌+◌, ◌*◌, ◌<◌, arith, length, vec_len}
use Rattle.matcher.proofs.Standing.{block_read}
use Rattle.matcher.proofs.candidates.Candidates.word.Goals as goal

pub returns : goal.returns
returns c =
    let room : vec_len c.args.self.now.words ≡ 4096 = c.args.self.now.room in
    let within : 256 * c.args.block + c.args.place < length c.args.self.now.words.items = omega
    (arith, c.args.self.now.words.ok.0, c.requires.place, c.requires.block) in
    block_read c.args.self.now.words.items c.args.block c.args.place c.index.result.now c.requires.place within
    c.index.ensures
