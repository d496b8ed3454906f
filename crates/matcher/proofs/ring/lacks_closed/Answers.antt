use Rattle.std.proofs.Common.{◌<◌, ◌∙◌, arith, length, max, refl}
use Rattle.std.proofs.lemmas.Bool.{not-true}
use Rattle.std.proofs.lemmas.List.{length-map}
use Rattle.smarts_parse.specs.Pattern.{graph_of, term_of}
use Rattle.matcher.proofs.Narrowings.{joins_bond}
use Rattle.matcher.proofs.Plans.{high_below}
use Rattle.matcher.proofs.Rings.{high_place, low_high, no_ring}
use Rattle.matcher.proofs.ring.lacks_closed.Goals as goal

pub bounds-task-high : goal.bounds-task-high
bounds-task-high c =
    let few = high_place c.args.task.now.graph.now c.args.place c.from-high.result c.index-bond.result.now
    c.requires.ready.searchable c.requires.place c.index-bond.ensures (c.from-high.ensures ∙ c.max.ensures) in
    let room = c.requires.ready.planned.room in
    omega (arith, few, room, length-map c.args.task.now.graph.now.atoms.items term_of)

pub way_down-requires-clause-from : goal.way_down-requires-clause-from
way_down-requires-clause-from c =
    high_place c.args.task.now.graph.now c.args.place c.from-high.result c.index-bond.result.now
    c.requires.ready.searchable c.requires.place
    c.index-bond.ensures (c.from-high.ensures ∙ c.max.ensures)

pub has_ring_atom-requires-clause-place : goal.has_ring_atom-requires-clause-place
has_ring_atom-requires-clause-place c =
    let few = high_place c.args.task.now.graph.now c.args.place c.from-high.result c.index-bond.result.now
    c.requires.ready.searchable c.requires.place c.index-bond.ensures (c.from-high.ensures ∙ c.max.ensures) in
    let high = c.from-high.ensures ∙ c.max.ensures in
    let low = c.from-low.ensures ∙ c.min.ensures in
    omega arith

pub returns : goal.returns
returns c =
    let task = c.args.task.now in
    let bond = c.index-bond.result.now in
    let few : max bond.a bond.b < length (graph_of task.graph.now).atoms =
    high_below task.graph.now.bonds.items (graph_of task.graph.now) c.args.place bond c.requires.place
    c.index-bond.ensures c.requires.ready.searchable.ends in
    let high = c.from-high.ensures ∙ c.max.ensures in
    let low = c.from-low.ensures ∙ c.min.ensures in
    λ t. no_ring task c.from-high.result c.from-low.result c.in-Some.links (omega arith) (
      c.args.place,
      joins_bond (graph_of task.graph.now) task.graph.now.bonds.items c.args.place c.from-low.result
          c.from-high.result bond refl c.requires.place c.index-bond.ensures (low_high bond.a bond.b c.from-low.result c.from-high.result low high),
    )
    (omega arith) c.in-Some.ensures.way (c.has_ring_atom.ensures (not-true _ t))
