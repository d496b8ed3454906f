use Rattle.std.proofs.Common.{◌∙◌, arith, refl, subst, sym}
use Rattle.std.proofs.lemmas.List.{length-map}
use Rattle.smarts_parse.specs.Pattern.{graph_of, term_of}
use Rattle.matcher.specs.Ring.{AreRingMarks}
use Rattle.matcher.proofs.Narrowings.{joins_bond}
use Rattle.matcher.proofs.Rings.{high_place, low_high, marked_split, ring_marked}
use Rattle.matcher.proofs.ring.mark_closed.Goals as goal

pub bounds-steps-high : goal.bounds-steps-high
bounds-steps-high c =
    let few = high_place c.args.graph.now c.args.place c.from-high.result c.index-bond.result.now
    c.requires.ready.searchable c.requires.place c.index-bond.ensures (c.from-high.ensures ∙ c.max.ensures) in
    let room = c.requires.ready.planned.room in
    omega (arith, few, room, length-map c.args.graph.now.atoms.items term_of)

pub mark_way-requires-clause-from : goal.mark_way-requires-clause-from
mark_way-requires-clause-from c =
    high_place c.args.graph.now c.args.place c.from-high.result c.index-bond.result.now c.requires.ready.searchable
    c.requires.place c.index-bond.ensures (c.from-high.ensures ∙ c.max.ensures)

pub mark_way-requires-clause-above : goal.mark_way-requires-clause-above
mark_way-requires-clause-above c =
    let few = high_place c.args.graph.now c.args.place c.from-high.result c.index-bond.result.now
    c.requires.ready.searchable c.requires.place c.index-bond.ensures (c.from-high.ensures ∙ c.max.ensures) in
    let most = c.requires.ready.searchable.few in
    omega (arith, few, most, length-map c.args.graph.now.atoms.items term_of)

pub returns-then-mark_way : goal.returns-then-mark_way
returns-then-mark_way c =
    let graph = c.args.graph.now in
    let bond = c.index-bond.result.now in
    let high = c.from-high.result in
    let low = c.from-low.result in
    let few = high_place graph c.args.place high bond c.requires.ready.searchable c.requires.place c.index-bond.ensures
    (c.from-high.ensures ∙ c.max.ensures) in
    ring_marked (graph_of graph) high low c.args.place c.args.marks.now c.mark_way.new.marks c.mark.new.marks
    c.requires.rings (c.mark_way.ensures.way c.if-mark_way.true)
    (omega (arith, few, length-map graph.atoms.items term_of))
    (joins_bond (graph_of graph) graph.bonds.items c.args.place low high bond refl c.requires.place
    c.index-bond.ensures (low_high bond.a bond.b low high (c.from-low.ensures ∙ c.min.ensures)
    (c.from-high.ensures ∙ c.max.ensures)))
    (marked_split c.mark_way.new.marks c.mark.new.marks c.args.place c.mark.ensures)

pub returns-else-mark_way : goal.returns-else-mark_way
returns-else-mark_way c = subst (AreRingMarks (graph_of c.args.graph.now))
    (sym (c.mark_way.ensures.kept c.if-mark_way.false)) c.requires.rings
