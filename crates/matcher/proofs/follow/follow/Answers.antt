use Rattle.std.proofs.Common.{subst, sym}
use Rattle.smarts_parse.specs.Pattern.{graph_of}
use Rattle.matcher.specs.Route.{AreSorted}
use Rattle.matcher.proofs.follow.follow.Goals as goal

pub is_image-requires-clause-sorted : goal.is_image-requires-clause-sorted
is_image-requires-clause-sorted c =
    let g = graph_of c.args.task.now.graph.now in
    subst (AreSorted g c.kinds-kinds.result.now) (sym c.sets.ensures)
    (subst (λ ks. AreSorted g ks c.args.route.now.sets.items) (sym c.kinds-kinds.ensures.value)
    (c.requires.route.sorted c.requires.some))
