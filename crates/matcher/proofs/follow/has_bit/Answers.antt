use Rattle.std.proofs.Common.{◌∙◌, sym}
use Rattle.std.proofs.lemmas.Bool.{eqb-true}
use Rattle.std.proofs.lemmas.Nat.Bits.{shr_and_one}
use Rattle.matcher.proofs.follow.has_bit.Goals as goal

pub returns-clause-has : goal.returns-clause-has
returns-clause-has c = λ t. sym (shr_and_one c.args.word c.args.atom) ∙ eqb-true _ _ t
