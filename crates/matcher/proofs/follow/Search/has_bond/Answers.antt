use Rattle.std.proofs.Common.{◌≡◌, ◌∙◌, ◌<◌, ap, arith, length, max, slice_index, subst}
use Rattle.std.proofs.lemmas.List.{length-map}
use Rattle.chem_core.specs.Graph.{JoinsAt}
use Rattle.chem_core.specs.Molecule.{ends_of}
use Rattle.smarts_parse.specs.Pattern.{graph_of, term_of}
use Rattle.matcher.proofs.Follows.{bond_held}
use Rattle.matcher.proofs.Plans.{high_below}
use Rattle.matcher.proofs.follow.Search.has_bond.Goals as goal

pub bounds-image-one : goal.bounds-image-one
bounds-image-one c =
    let task = c.args.self.now.task.now in
    let bond = c.index-bond.result.now in
    let size = length-map task.graph.now.atoms.items term_of in
    let room = c.requires.room in
    let high : max bond.a bond.b < length (graph_of task.graph.now).atoms = high_below task.graph.now.bonds.items
    (graph_of task.graph.now) c.args.number bond c.requires.bond c.index-bond.ensures
    c.requires.ready.ready.searchable.ends in
    omega (arith, c.from-one.ensures)

pub bounds-image-other : goal.bounds-image-other
bounds-image-other c =
    let task = c.args.self.now.task.now in
    let bond = c.index-bond.result.now in
    let size = length-map task.graph.now.atoms.items term_of in
    let room = c.requires.room in
    let high : max bond.a bond.b < length (graph_of task.graph.now).atoms = high_below task.graph.now.bonds.items
    (graph_of task.graph.now) c.args.number bond c.requires.bond c.index-bond.ensures
    c.requires.ready.ready.searchable.ends in
    omega (arith, c.from-other.ensures)

pub bounds-self-sets : goal.bounds-self-sets
bounds-self-sets c =
    let task = c.args.self.now.task.now in
    let bond = c.index-bond.result.now in
    let size = length-map task.graph.now.atoms.items term_of in
    let room = c.requires.room in
    let high : max bond.a bond.b < length (graph_of task.graph.now).atoms = high_below task.graph.now.bonds.items
    (graph_of task.graph.now) c.args.number bond c.requires.bond c.index-bond.ensures
    c.requires.ready.ready.searchable.ends in
    let from : c.from-from.result ≡ slice_index c.args.image.now bond.a = c.from-from.ensures
    ∙ ap (λ i. slice_index c.args.image.now i) c.from-one.ensures in
    let low = c.requires.placed.within bond.a (omega arith) in
    let few = c.requires.ready.few in
    let sets = c.requires.ready.sets in
    let words = c.requires.ready.room in
    let within = c.requires.sorted.within in
    omega (arith, from)

pub returns : goal.returns
returns c = λ t.
    let s = c.args.self.now in
    let task = s.task.now in
    let m = task.mol.now in
    let image = c.args.image.now in
    let bond = c.index-bond.result.now in
    let size = length-map task.graph.now.atoms.items term_of in
    let high : max bond.a bond.b < length (graph_of task.graph.now).atoms = high_below task.graph.now.bonds.items
    (graph_of task.graph.now) c.args.number bond c.requires.bond c.index-bond.ensures
    c.requires.ready.ready.searchable.ends in
    let from : c.from-from.result ≡ slice_index image bond.a = c.from-from.ensures
    ∙ ap (λ i. slice_index image i) c.from-one.ensures in
    let to : c.from-to.result ≡ slice_index image bond.b = c.from-to.ensures
    ∙ ap (λ i. slice_index image i) c.from-other.ensures in
    let here : c.from-from.result < length m.atoms =
    (let low = c.requires.placed.within bond.a (omega arith) in omega arith) in
    let set = slice_index c.args.sets.now c.args.number in
    let w = (c.requires.ready.joined set c.requires.sorted.within).only c.from-from.result c.from-to.result here
    (c.has_bit.ensures.has t) in
    bond_held task s.kinds.now c.args.sets.now image c.args.number bond c.requires.bond c.index-bond.ensures
    c.requires.sorted (
      w.0,
      subst (λ x. JoinsAt (ends_of m) w.0 x (slice_index image bond.b)) from
          (subst (λ y. JoinsAt (ends_of m) w.0 c.from-from.result y) to w.1),
      w.2,
    )
