use Rattle.std.proofs.Common.{Option, subst}
use Rattle.journal_core.specs.declared.open.Opening.{Opening}
use Rattle.journal_core.specs.Found.{IsMeasured}
use Rattle.journal_core.proofs.FrontLaws.{part_peeked}
use Rattle.journal_core.specs.Fronts.{IsHeader}
use Rattle.journal_core.proofs.open.peek_header.Goals as goal

pub returns-in-Some-clause-peeked : goal.returns-in-Some-clause-peeked
returns-in-Some-clause-peeked g c l told =
    let m = subst (λ (o : Option Opening). IsMeasured o l) c.in-Some.is (c.in_ok-found.ensures.header l told) in
    let range : IsHeader c.in-Some.found.header = rw c.in-Some.is at c.in_ok-found.ensures.range in
    part_peeked c.in-Some.found.header m.1.0 m.1.1 l m.1.2 range m.1.3

pub returns-in-None-clause-peeked : goal.returns-in-None-clause-peeked
returns-in-None-clause-peeked g c l told =
    subst (λ (o : Option Opening). IsMeasured o l) c.in-None.is (c.in_ok-found.ensures.header l told)
