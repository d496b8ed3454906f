use Rattle.std.proofs.Common.{◌∙◌, ◌*◌, ◌%◌, ◌^◌, arith, w64}
use Rattle.std.specs.Int.{bit_not}
use Rattle.std.proofs.lemmas.Nat.Bits.{bit_at-lt, bit_at_and, bit_at_clear_other, bit_at_clear_same}
use Rattle.matcher.proofs.follow.without_bit.Goals as goal

pub returns-clause-kept : goal.returns-clause-kept
returns-clause-kept c = λ a l other t. bit_at_clear_other w64 c.args.word c.args.atom c.requires a l other ∙ t

pub returns-clause-only : goal.returns-clause-only
returns-clause-only c = λ a t.
    let both = bit_at_and c.args.word (bit_not w64 (1 * 2 ^ c.args.atom % 2 ^ 64)) a in
    let one = bit_at-lt c.args.word a in
    let two = bit_at-lt (bit_not w64 (1 * 2 ^ c.args.atom % 2 ^ 64)) a in
    omega arith

pub returns-clause-gone : goal.returns-clause-gone
returns-clause-gone c = λ t.
    let none = bit_at_clear_same w64 c.args.word c.args.atom c.requires in
    omega arith
