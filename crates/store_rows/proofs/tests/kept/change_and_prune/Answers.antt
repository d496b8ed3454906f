use Rattle.store_rows.proofs.tests.kept.change_and_prune.Goals as goal

pub returns : goal.returns
returns c = λ slot version held.
    (c.prune.ensures.held slot version).1
    (c.in_ok-commit-3.ensures slot version
    (c.in_ok-commit-2.ensures slot version (c.in_ok-commit.ensures slot version held)))
