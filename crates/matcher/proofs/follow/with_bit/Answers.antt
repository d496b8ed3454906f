use Rattle.std.proofs.Common.{◌≡◌, ◌*◌, ◌%◌, ◌^◌, arith, bit_or, subst, sym, w64}
use Rattle.std.specs.Int.{bit_at}
use Rattle.std.proofs.lemmas.Nat.Bits.{bit_at_set_same}
use Rattle.matcher.proofs.Classes.{or_one}
use Rattle.matcher.proofs.follow.with_bit.Goals as goal

pub returns-clause-here : goal.returns-clause-here
returns-clause-here c = λ l.
    let same : c.args.atom % 64 ≡ c.args.atom = omega arith in
    subst (λ k. bit_at (bit_or c.args.word (1 * 2 ^ k % 2 ^ 64)) c.args.atom ≡ 1) (sym same)
    (bit_at_set_same w64 c.args.word c.args.atom l)

pub returns-clause-kept : goal.returns-clause-kept
returns-clause-kept c = λ a t. or_one c.args.word (1 * 2 ^ (c.args.atom % 64) % 2 ^ 64) a t
