use Rattle.std.proofs.Common.{arith, below_more, subst, take}
use Rattle.std.proofs.lemmas.List.{length-map}
use Rattle.smarts_parse.specs.Pattern.{bond_of, graph_of}
use Rattle.matcher.specs.Route.{AreSorted}
use Rattle.matcher.proofs.route.Route.are_sorted.Goals as goal

pub loop-number-preserved : goal.loop-number-preserved
loop-number-preserved c = below_more _ _ c.loop-number.invariant (c.is_sorted.ensures c.if-not-is_sorted.false)

pub returns : goal.returns
returns c = λ _.
    let g = graph_of c.args.graph.now in
    let kinds = c.kinds-kinds.result.now in
    let sets = c.sets-sets.result.now in
    let whole : AreSorted g kinds sets = λ n l. c.loop-number.invariant n
    (omega (arith, length-map c.args.graph.now.bonds.items bond_of)) in
    subst (λ xs. AreSorted g (take c.args.self.now.count c.args.self.now.kinds) xs) c.sets-sets.ensures
    (subst (λ ks. AreSorted g ks sets) c.kinds-kinds.ensures.value whole)
