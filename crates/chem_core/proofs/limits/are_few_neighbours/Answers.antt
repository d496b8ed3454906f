use Rattle.std.proofs.Common.{◌+◌, set, refl, arith}
use Rattle.std.proofs.lemmas.List.{length-set}
use Rattle.chem_core.specs.declared.sketch.SketchBond.{SketchBond}
use Rattle.chem_core.specs.declared.sketch.SketchKind.TheVariants.{Unwritten}
use Rattle.chem_core.proofs.Counts.{one_fits, both_fit, counted_more, few_more, few_all, too_many, ends_within}
use Rattle.chem_core.proofs.limits.are_few_neighbours.Goals as goal
use Rattle.chem_core.proofs.limits.are_few_neighbours.Goals.{then-index-gt-MOST_NEIGHBOURS-via-then-index-gt-MOST_NEIGHBOURS, then-index-gt-MOST_NEIGHBOURS-via-else-index-gt-MOST_NEIGHBOURS+then-index-gt-MOST_NEIGHBOURS-2}

abbrev other : SketchBond
other = record { a = 0; b = 0; kind = Unwritten }

pub returns-then-index-gt-MOST_NEIGHBOURS : goal.returns-then-index-gt-MOST_NEIGHBOURS
returns-then-index-gt-MOST_NEIGHBOURS c =
    let cs = c.loop-bond.counts.items in
    let x = c.index_mut.result.now in
    let y = c.index_mut-in-loop-bond.result.now in
    let p = c.from-first.result in
    let q = c.from-second.result in
    let room = c.loop-bond.invariant.room in
    let l1 = length-set cs p (x + 1) in
    let l2 = length-set (set cs p (x + 1)) q (y + 1) in
    let in' = ends_within c.args.atoms c.args.bonds.now c.loop-bond.bond-index other p q c.requires
    c.loop-bond-test.true c.from-first.ensures c.from-second.ensures in
    let counted = counted_more c.args.atoms c.args.bonds.now cs c.loop-bond.bond-index other p q x y c.requires
    c.loop-bond-test.true room c.loop-bond.invariant.counted c.from-first.ensures c.from-second.ensures
    c.index_mut.ensures.value c.index_mut-in-loop-bond.ensures.value in (
      λ e. absurd (cc),
      λ all. absurd (elim c.then-index-gt-MOST_NEIGHBOURS.branch [
        | then-index-gt-MOST_NEIGHBOURS-via-then-index-gt-MOST_NEIGHBOURS w ↦
            too_many c.args.atoms c.args.bonds.now (set (set cs p (x + 1)) q (y + 1)) (c.loop-bond.bond-index + 1) p
            c.index.result.now (omega arith) counted in'.0 c.index.ensures w.if-index-gt-MOST_NEIGHBOURS.true all
        | then-index-gt-MOST_NEIGHBOURS-via-else-index-gt-MOST_NEIGHBOURS+then-index-gt-MOST_NEIGHBOURS-2 w ↦
            too_many c.args.atoms c.args.bonds.now (set (set cs p (x + 1)) q (y + 1)) (c.loop-bond.bond-index + 1) q
            w.index-else-index-gt-MOST_NEIGHBOURS.result.now (omega arith) counted in'.1
            w.index-else-index-gt-MOST_NEIGHBOURS.ensures w.if-index-gt-MOST_NEIGHBOURS-2.true all
      ]),
    )

pub loop-bond-preserved : goal.loop-bond-preserved
loop-bond-preserved c =
    let cs = c.loop-bond.counts.items in
    let x = c.index_mut.result.now in
    let y = c.index_mut-in-loop-bond.result.now in
    let p = c.from-first.result in
    let q = c.from-second.result in
    let room = c.loop-bond.invariant.room in
    let l1 = length-set cs p (x + 1) in
    let l2 = length-set (set cs p (x + 1)) q (y + 1) in
    let in' = ends_within c.args.atoms c.args.bonds.now c.loop-bond.bond-index other p q c.requires
    c.loop-bond-test.true c.from-first.ensures c.from-second.ensures in
    record {
      room = omega arith;
      counted = counted_more c.args.atoms c.args.bonds.now cs c.loop-bond.bond-index other p q x y c.requires
          c.loop-bond-test.true room c.loop-bond.invariant.counted c.from-first.ensures c.from-second.ensures
          c.index_mut.ensures.value c.index_mut-in-loop-bond.ensures.value;
      few = few_more cs c.args.atoms p q (x + 1) (y + 1) c.index.result.now
          c.index-else-index-gt-MOST_NEIGHBOURS.result.now room in'.0 in'.1 c.index.ensures
          c.if-index-gt-MOST_NEIGHBOURS.false c.index-else-index-gt-MOST_NEIGHBOURS.ensures
          c.if-index-gt-MOST_NEIGHBOURS-2.false c.loop-bond.invariant.few;
    }

pub returns : goal.returns
returns c = (
  λ e. few_all c.args.atoms c.args.bonds.now c.loop-bond.counts.items c.loop-bond.bond-index c.requires (omega arith)
      c.loop-bond.invariant.counted c.loop-bond.invariant.few,
  λ all. refl,
)

pub index_mut-requires : goal.index_mut-requires
index_mut-requires c =
    let room = c.loop-bond.invariant.room in
    let kept = c.loop-bond.counts.ok.0 in
    let within = ends_within c.args.atoms c.args.bonds.now c.loop-bond.bond-index other c.from-first.result
    c.from-second.result c.requires c.loop-bond-test.true c.from-first.ensures c.from-second.ensures in
    let here = within.0 in
    omega arith

pub overflow_add-index_mut : goal.overflow_add-index_mut
overflow_add-index_mut c =
    let inv = c.loop-bond.invariant in
    let within = ends_within c.args.atoms c.args.bonds.now c.loop-bond.bond-index other c.from-first.result
    c.from-second.result c.requires c.loop-bond-test.true c.from-first.ensures c.from-second.ensures in
    let few = one_fits c.loop-bond.counts.items c.args.atoms c.from-first.result c.index_mut.result.now inv.room
    within.0 c.index_mut.ensures.value inv.few in
    omega arith

pub index_mut-requires-in-loop-bond : goal.index_mut-requires-in-loop-bond
index_mut-requires-in-loop-bond c =
    let room = c.loop-bond.invariant.room in
    let kept = c.loop-bond.counts.ok.0 in
    let within = ends_within c.args.atoms c.args.bonds.now c.loop-bond.bond-index other c.from-first.result
    c.from-second.result c.requires c.loop-bond-test.true c.from-first.ensures c.from-second.ensures in
    let here = within.1 in
    omega arith

pub overflow_add-index_mut-in-loop-bond : goal.overflow_add-index_mut-in-loop-bond
overflow_add-index_mut-in-loop-bond c =
    let inv = c.loop-bond.invariant in
    let within = ends_within c.args.atoms c.args.bonds.now c.loop-bond.bond-index other c.from-first.result
    c.from-second.result c.requires c.loop-bond-test.true c.from-first.ensures c.from-second.ensures in
    let few = both_fit c.loop-bond.counts.items c.args.atoms c.from-first.result c.from-second.result
    c.index_mut.result.now c.index_mut-in-loop-bond.result.now inv.room within.0 within.1 c.index_mut.ensures.value
    c.index_mut-in-loop-bond.ensures.value inv.few in
    omega arith

pub index-requires : goal.index-requires
index-requires c =
    let room = c.loop-bond.invariant.room in
    let kept = c.loop-bond.counts.ok.0 in
    let within = ends_within c.args.atoms c.args.bonds.now c.loop-bond.bond-index other c.from-first.result
    c.from-second.result c.requires c.loop-bond-test.true c.from-first.ensures c.from-second.ensures in
    let here = within.0 in
    omega arith

pub index-requires-else-index-gt-MOST_NEIGHBOURS : goal.index-requires-else-index-gt-MOST_NEIGHBOURS
index-requires-else-index-gt-MOST_NEIGHBOURS c =
    let room = c.loop-bond.invariant.room in
    let kept = c.loop-bond.counts.ok.0 in
    let within = ends_within c.args.atoms c.args.bonds.now c.loop-bond.bond-index other c.from-first.result
    c.from-second.result c.requires c.loop-bond-test.true c.from-first.ensures c.from-second.ensures in
    let here = within.1 in
    omega arith
