use Rattle.std.proofs.Common.{◌∙◌}
use Rattle.chem_rows.proofs.tests.call_each.Goals as goal

pub chemdb-requires-clause-ends : goal.chemdb-requires-clause-ends
chemdb-requires-clause-ends g c κs within = λ asks.
    let p = c.in_ok-count.ensures asks in
    (p.0, p.1, c.in_ok-ends.ensures ∙ p.2)
