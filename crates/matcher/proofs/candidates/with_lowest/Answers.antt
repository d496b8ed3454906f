use Rattle.std.proofs.Common.{◌≡◌, ◌↔◌, true, subst, sym}
use Rattle.matcher.proofs.Truths.{bool_bit, lowest_new, others_up}
use Rattle.matcher.proofs.candidates.with_lowest.Goals as goal

pub returns-clause-lowest : goal.returns-clause-lowest
returns-clause-lowest c =
    let new = bool_bit c.args.bit c.from.result c.from.ensures in
    subst (λ k. (k ≡ 1) ↔ (c.args.bit ≡ true)) (sym (lowest_new c.args.word c.from.result new.0)) new.1

pub returns-clause-others : goal.returns-clause-others
returns-clause-others c = λ i l. others_up c.args.word c.from.result i
    (bool_bit c.args.bit c.from.result c.from.ensures).0 l
