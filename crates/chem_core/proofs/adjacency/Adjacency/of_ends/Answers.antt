use Rattle.std.proofs.Common.{◌≡◌, length}
use Rattle.chem_core.proofs.StepsFilled.{length_none}
use Rattle.chem_core.proofs.adjacency.Adjacency.of_ends.Goals as goal

pub fill-requires-clause-graph : goal.fill-requires-clause-graph
fill-requires-clause-graph c =
    let long : length c.in_ok-lists.lists.items ≡ c.args.atoms =
    length_none (λ v. v.items) _ _ c.in_ok-lists.ensures in
    rw (c.deref_mut.ensures.value, c.deref.ensures.value, long) c.requires
