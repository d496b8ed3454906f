use Rattle.std.proofs.Common.{◌*◌, ◌%◌, ◌^◌, arith, w64}
use Rattle.std.proofs.lemmas.Nat.Bits.{bit_at_set_same}
use Rattle.matcher.proofs.Classes.{or_one}
use Rattle.matcher.proofs.route.with_place.Goals as goal

pub returns-clause-here : goal.returns-clause-here
returns-clause-here c = bit_at_set_same w64 c.args.seen (c.args.place % 64) (omega arith)

pub returns-clause-kept : goal.returns-clause-kept
returns-clause-kept c = λ p t. or_one c.args.seen (1 * 2 ^ (c.args.place % 64) % 2 ^ 64) p t
