use Rattle.std.proofs.Common.{◌<◌, ◌∙◌, arith, refl, subst, sym}
use Rattle.std.proofs.lemmas.List.{length-map}
use Rattle.smarts_parse.specs.Pattern.{bond_of, graph_of, term_of}
use Rattle.matcher.proofs.Near.{low_before}
use Rattle.matcher.proofs.Plans.{first_bond}
use Rattle.matcher.proofs.Narrowings.{joins_bond}
use Rattle.matcher.proofs.Rings.{high_low}
use Rattle.matcher.proofs.ring.place_below.Goals as goal

pub returns-clause-lower : goal.returns-clause-lower
returns-clause-lower c =
    let graph = c.args.graph.now in
    let few = subst (λ n. c.args.place < n) (sym (length-map graph.atoms.items term_of)) c.requires.place in
    let first = first_bond graph.bonds.items (graph_of graph) c.args.steps.now c.args.place c.index-bond.result.now refl
    c.requires.ready few (omega arith) c.index-bond.ensures in
    let lower = low_before first.0 first.1 in
    let low = c.from.ensures ∙ c.min.ensures in
    omega arith

pub returns-clause-joined : goal.returns-clause-joined
returns-clause-joined c =
    let graph = c.args.graph.now in
    let bond = c.index-bond.result.now in
    let few = subst (λ n. c.args.place < n) (sym (length-map graph.atoms.items term_of)) c.requires.place in
    let first = first_bond graph.bonds.items (graph_of graph) c.args.steps.now c.args.place bond refl
    c.requires.ready few (omega arith) c.index-bond.ensures in
    let end = c.requires.ready.planned.ends c.args.place few in
    let size = length-map graph.bonds.items bond_of in
    joins_bond (graph_of graph) graph.bonds.items _ c.args.place c.from.result bond refl
    (omega (arith, end, size)) c.index-bond.ensures
    (high_low bond.a bond.b c.from.result c.args.place (c.from.ensures ∙ c.min.ensures) (sym first.0))
