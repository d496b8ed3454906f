use Rattle.std.proofs.Common.{◌<◌, arith, w64}
use Rattle.std.proofs.lemmas.Nat.Bits.{bit_at-trailing_zeros}
use Rattle.matcher.proofs.follow.lowest.Goals as goal

pub returns : goal.returns
returns c =
    let some : 0 < c.args.word = let h = c.requires in omega arith in
    (bit_at-trailing_zeros w64 c.args.word some (omega arith)).0
