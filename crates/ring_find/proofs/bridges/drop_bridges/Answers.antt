use Rattle.std.proofs.Common.{◌≡◌, ◌∙◌, Ok, true, ap}
use Rattle.ring_find.proofs.bridges.drop_bridges.Goals as goal

pub drop_between-requires-clause-forest : goal.drop_between-requires-clause-forest
drop_between-requires-clause-forest c =
    let is : c.is_forest.result ≡ Ok true = c.in_ok-is_forest.was ∙ ap Ok c.if-branch.true in
    rw (c.deref-then-branch.ensures.value, ← c.deref.ensures.value) (c.is_forest.ensures is)
