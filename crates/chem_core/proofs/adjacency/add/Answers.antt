use Rattle.chem_core.proofs.StepsFilled.{map-put}
use Rattle.chem_core.proofs.adjacency.add.Goals as goal

pub returns : goal.returns
returns c =
    rw c.from.ensures
    (map-put (λ v. v.items) c.args.lists.now c.args.from _ _ c.args.step c.requires.within
    (rw c.from.ensures at c.push.ensures.items))
