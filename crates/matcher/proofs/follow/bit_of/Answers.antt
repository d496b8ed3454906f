use Rattle.std.proofs.Common.{◌∙◌, ap, arith}
use Rattle.std.specs.Int.{bit_at}
use Rattle.std.proofs.lemmas.Nat.Bits.{bit_at-lt, shr_and_one}
use Rattle.matcher.proofs.follow.bit_of.Goals as goal

pub returns-clause-value : goal.returns-clause-value
returns-clause-value c = shr_and_one c.args.kinds c.number_of.result
    ∙ ap (bit_at c.args.kinds) c.number_of.ensures.value

pub returns-clause-few : goal.returns-clause-few
returns-clause-few c =
    let is = shr_and_one c.args.kinds c.number_of.result in
    let low = bit_at-lt c.args.kinds c.number_of.result in
    omega arith
