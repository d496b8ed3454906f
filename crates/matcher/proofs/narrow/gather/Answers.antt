use Rattle.std.proofs.Common.{◌∙◌, ap, arith, length, subst, sym}
use Rattle.std.proofs.lemmas.List.{length-map}
use Rattle.smarts_parse.specs.Pattern.{graph_of, term_of}
use Rattle.matcher.specs.declared.narrow.Around.{Around}
use Rattle.matcher.proofs.Narrowings.{IsGathered, around_none, bond_ends, ends_apart, gathered_both, gathered_kept, has_around}
use Rattle.matcher.proofs.narrow.gather.Goals as goal

pub bounds-around-place : goal.bounds-around-place
bounds-around-place c =
    let few = c.requires.ready.searchable.few in
    omega (arith, few, c.requires.around, length-map c.args.task.now.graph.now.atoms.items term_of)

pub loop-index-init : goal.loop-index-init
loop-index-init c p l = subst (IsGathered (graph_of c.args.task.now.graph.now) c.args.marks.now c.args.words.now p 0)
    (sym (c.loop-place.invariant p (omega (arith, l, c.loop-place-test.false))))
    (record {
      few = omega arith;
      around = around_none (graph_of c.args.task.now.graph.now) c.args.marks.now c.args.words.now p;
    })

pub loop-index-preserved-then-not-is_marked : goal.loop-index-preserved-then-not-is_marked
loop-index-preserved-then-not-is_marked c p l = gathered_kept _ _ _ _ _ _ (c.loop-index.invariant p l)

pub lead-requires-clause-from : goal.lead-requires-clause-from
lead-requires-clause-from c =
    let h = bond_ends c.args.task.now c.loop-index.index c.bond-item.result c.requires.ready
    (rw c.deref-bond-items.ensures.value at c.loop-index-test.true)
    (rw c.deref-bond-items.ensures.value at c.bond-item.is) in
    let few = c.requires.ready.searchable.few in
    let size = length-map c.args.task.now.graph.now.atoms.items term_of in
    omega (arith, few, size, h.1, c.requires.around)

pub lead-requires-clause-to : goal.lead-requires-clause-to
lead-requires-clause-to c =
    let h = bond_ends c.args.task.now c.loop-index.index c.bond-item.result c.requires.ready
    (rw c.deref-bond-items.ensures.value at c.loop-index-test.true)
    (rw c.deref-bond-items.ensures.value at c.bond-item.is) in
    let few = c.requires.ready.searchable.few in
    let size = length-map c.args.task.now.graph.now.atoms.items term_of in
    omega (arith, few, size, h.2, c.requires.room)

pub lead-requires-clause-few : goal.lead-requires-clause-few
lead-requires-clause-few c =
    let h = bond_ends c.args.task.now c.loop-index.index c.bond-item.result c.requires.ready
    (rw c.deref-bond-items.ensures.value at c.loop-index-test.true)
    (rw c.deref-bond-items.ensures.value at c.bond-item.is) in
    let few = c.requires.ready.searchable.few in
    let size = length-map c.args.task.now.graph.now.atoms.items term_of in
    let before = (c.loop-index.invariant c.bond-item.result.a h.1).few in
    omega (arith, before, c.loop-index-test.true)

pub lead-requires-in-loop-index-clause-from : goal.lead-requires-in-loop-index-clause-from
lead-requires-in-loop-index-clause-from c =
    let h = bond_ends c.args.task.now c.loop-index.index c.bond-item.result c.requires.ready
    (rw c.deref-bond-items.ensures.value at c.loop-index-test.true)
    (rw c.deref-bond-items.ensures.value at c.bond-item.is) in
    let few = c.requires.ready.searchable.few in
    let size = length-map c.args.task.now.graph.now.atoms.items term_of in
    omega (arith, few, size, h.2, c.requires.around)

pub lead-requires-in-loop-index-clause-few : goal.lead-requires-in-loop-index-clause-few
lead-requires-in-loop-index-clause-few c =
    let h = bond_ends c.args.task.now c.loop-index.index c.bond-item.result c.requires.ready
    (rw c.deref-bond-items.ensures.value at c.loop-index-test.true)
    (rw c.deref-bond-items.ensures.value at c.bond-item.is) in
    let few = c.requires.ready.searchable.few in
    let size = length-map c.args.task.now.graph.now.atoms.items term_of in
    let differ = ends_apart (graph_of c.args.task.now.graph.now) c.loop-index.index c.bond-item.result.a
    c.bond-item.result.b c.requires.ready.searchable h.0 in
    let before = (c.loop-index.invariant c.bond-item.result.b h.2).few in
    let same = ap (λ (x : Around). x.count) (c.lead.ensures.others c.bond-item.result.b (λ e. differ (sym e))) in
    omega (arith, before, same, c.loop-index-test.true)

pub loop-index-preserved : goal.loop-index-preserved
loop-index-preserved c =
    let h = bond_ends c.args.task.now c.loop-index.index c.bond-item.result c.requires.ready
    (rw c.deref-bond-items.ensures.value at c.loop-index-test.true)
    (rw c.deref-bond-items.ensures.value at c.bond-item.is) in
    let few = c.requires.ready.searchable.few in
    let size = length-map c.args.task.now.graph.now.atoms.items term_of in
    gathered_both (graph_of c.args.task.now.graph.now) c.args.marks.now c.args.words.now c.loop-index.index
    c.bond-item.result.a c.bond-item.result.b (length c.args.task.now.graph.now.atoms.items) c.loop-index.around
    c.lead.new.around c.lead-in-loop-index.new.around c.requires.ready.searchable
    (sym c.is_marked.ensures ∙ c.if-not-is_marked.false) h.0 c.lead.ensures.here c.lead.ensures.others
    c.lead-in-loop-index.ensures.here c.lead-in-loop-index.ensures.others c.loop-index.invariant

pub returns : goal.returns
returns c p l image e =
    let task = c.args.task.now in
    let h = c.loop-index.invariant p l in
    has_around task c.args.marks.now c.args.near.now c.args.words.now p _ _ _ image c.requires.ready h.around
    c.requires.reach c.requires.candidates c.requires.few e
