use Rattle.store_rows.proofs.tests.kept.commit.Goals as goal

pub returns : goal.returns
returns c = λ slot version held. (c.commit.ensures.held slot version).1 held
