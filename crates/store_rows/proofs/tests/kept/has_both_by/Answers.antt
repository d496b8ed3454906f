use Rattle.store_rows.proofs.tests.kept.has_both_by.Goals as goal

pub returns : goal.returns
returns g c = λ slot version held. (c.fetch.ensures.held slot version).1 held
