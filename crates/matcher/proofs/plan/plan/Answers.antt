-- Each bond goes into the step of its higher end.
use Rattle.std.proofs.Common.{◌<◌, ◌≤◌, ◌∙◌, ap, arith, length, map, max, refl, sym, subst}
use Rattle.std.proofs.lemmas.List.{get_or-map, length-set}
use Rattle.smarts_parse.specs.Pattern.{graph_of, term_of}
use Rattle.matcher.specs.declared.plan.EarlierBonds.{EarlierBonds}
use Rattle.matcher.specs.Class.{Covers}
use Rattle.matcher.proofs.Plans.{covered_more, covered_set, high_below, none_more, planned_next, repeats_more, repeats_set}
use Rattle.matcher.proofs.plan.plan.Goals as goal

-- the higher end is an atom
high : (c : goal.After-from-high) → c.from-high.result < length (graph_of c.args.graph.now).atoms
high c =
    let bond = c.bond-item.result in
    let is = rw c.deref-bond-items.ensures.value at c.bond-item.is in
    let within = rw c.deref-bond-items.ensures.value at c.loop-place-test.true in
    let below : max bond.a bond.b < length (graph_of c.args.graph.now).atoms = high_below c.args.graph.now.bonds.items
    (graph_of c.args.graph.now) c.loop-place.place bond within is c.requires.searchable.ends in
    subst (λ k. k < length (graph_of c.args.graph.now).atoms) (sym (c.from-high.ensures ∙ c.max.ensures)) below

pub slice_copy_out-with : goal.slice_copy_out-with
slice_copy_out-with c = let h = high c in let r = c.loop-place.invariant.planned.room in omega arith

pub bounds-steps-high : goal.bounds-steps-high
bounds-steps-high c =
    let is = rw c.deref-bond-items.ensures.value at c.bond-item.is in
    let within = rw c.deref-bond-items.ensures.value at c.loop-place-test.true in
    let g = graph_of c.args.graph.now in
    let below : max c.bond-item.result.a c.bond-item.result.b < length g.atoms = high_below c.args.graph.now.bonds.items
    g c.loop-place.place c.bond-item.result within is c.requires.searchable.ends in
    let top = c.from-high.ensures ∙ c.max.ensures in
    let r = c.loop-place.invariant.planned.room in
    omega (arith, below, top)

pub loop-place-preserved : goal.loop-place-preserved
loop-place-preserved c =
    let is = rw c.deref-bond-items.ensures.value at c.bond-item.is in
    let within = rw c.deref-bond-items.ensures.value at c.loop-place-test.true in
    let g = graph_of c.args.graph.now in
    let bonds = c.args.graph.now.bonds.items in
    let top = c.from-high.ensures ∙ c.max.ensures in
    let below : max c.bond-item.result.a c.bond-item.result.b < length g.atoms = high_below bonds g c.loop-place.place
    c.bond-item.result within is c.requires.searchable.ends in
    let r = c.loop-place.invariant.planned.room in
    record {
      planned = planned_next bonds g c.loop-place.place c.loop-place.steps c.from-high.result c.with.result
          c.bond-item.result refl c.loop-place.invariant.planned within is top
          (subst (λ k. k < length g.atoms) (sym top) below) c.with.ensures.fresh c.with.ensures.again c.with.ensures.to;
      covered = covered_set g.atoms (length g.atoms) c.loop-place.steps c.from-high.result c.with.result
          c.loop-place.invariant.covered (omega arith) c.with.ensures.classes;
      repeats = repeats_set g.atoms (length g.atoms) c.loop-place.steps c.from-high.result c.with.result
          c.loop-place.invariant.repeats (omega arith) c.with.ensures.repeat;
    }

pub loop-atom-preserved : goal.loop-atom-preserved
loop-atom-preserved c =
    let i = c.loop-atom.atom in
    let exprs = c.args.graph.now.atoms.items in
    let steps = c.loop-atom.steps in
    let next : EarlierBonds = record { from = 0; to = 0; classes = c.classes_of.result; again = c.is_repeat.result } in
    let within : i < length exprs = omega (arith, c.loop-atom-test.true, c.len-atom-end.ensures) in
    let room = c.loop-atom.invariant.room in
    let lt : i < length steps = omega arith in
    record {
      room = subst (λ n. length exprs ≤ n) (sym (length-set steps i next)) room;
      none = none_more steps i next c.loop-atom.invariant.none lt refl;
      covered = covered_more (map term_of exprs) i steps next c.loop-atom.invariant.covered lt
          (λ d. subst (λ e. Covers next.classes e)
          (sym (get_or-map term_of exprs i c.index.result.now d within ∙ ap term_of (sym c.index.ensures)))
          c.classes_of.ensures);
      repeats = repeats_more (map term_of exprs) i steps next c.loop-atom.invariant.repeats lt c.is_repeat.ensures;
    }
