use Rattle.io_edge.proofs.Cuts.{text_is-cr, text_is-other}
use Rattle.io_edge.proofs.lines.text_of.Goals as goal

pub returns-in-Some-clause-text : goal.returns-in-Some-clause-text
returns-in-Some-clause-text c = text_is-cr _ _ _ c.in-Some.ensures.cases.0 c.if-last-eq-CR.true

pub returns-in_default-clause-text : goal.returns-in_default-clause-text
returns-in_default-clause-text c = text_is-other _ _ _ c.in-Some.ensures.cases.0 c.if-last-eq-CR.false
