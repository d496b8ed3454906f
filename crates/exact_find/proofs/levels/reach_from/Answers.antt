use Rattle.std.proofs.Common.{◌≡◌, ◌<◌, ◌+◌, ℕ, List, get_or, length, set, sym, subst, arith, rules}
use Rattle.chem_core.specs.declared.mol.BondKind.{BondKind}
use Rattle.chem_core.specs.Graph.{AreNeighbours}
use Rattle.chem_core.specs.Molecule.{ends_of}
use Rattle.exact_find.specs.Same.{HasBond}
use Rattle.exact_find.proofs.Images.{bond_within}
use Rattle.exact_find.proofs.Maps.{turned}
use Rattle.exact_find.proofs.Near.{near_bond}
use Rattle.exact_find.proofs.Spread.{IsWidened, spread-few, spread-level, spread-room, widened-first, widened-put, widened-same, widened-whole}
use Rattle.exact_find.proofs.levels.reach_from.Goals as goal
use Rattle.exact_find.proofs.levels.reach_from.Goals.{then-levels-place, else-levels-place}

pub offset_bounds-list-at : goal.offset_bounds-list-at
offset_bounds-list-at c =
    let s = c.requires.spread.2 in
    let few = spread-few c.args.mol.now c.requires.spread.0 c.requires.spread.1 c.args.levels.now c.args.list.now c.args.at
    c.args.before s in
    omega (arith, c.requires.further, s.sound.graph.few_atoms)

pub bounds-list-at : goal.bounds-list-at
bounds-list-at c =
    let s = c.requires.spread.2 in
    let few = spread-few c.args.mol.now c.requires.spread.0 c.requires.spread.1 c.args.levels.now c.args.list.now c.args.at
    c.args.before s in
    omega (arith, c.requires.further, c.requires.list_room)

pub overflow_add-level : goal.overflow_add-level
overflow_add-level c =
    let low = spread-level c.args.mol.now c.requires.spread.0 c.requires.spread.1 c.args.levels.now c.args.list.now
    c.args.at c.args.before c.from.result c.requires.further c.from.ensures c.requires.spread.2 in
    omega arith

pub loop-neighbour-init : goal.loop-neighbour-init
loop-neighbour-init c =
    subst (λ x. IsWidened c.args.mol.now c.args.levels.now c.args.list.now c.args.at c.args.before
    (get_or c.args.levels.now x 0 + 1) c.neighbours-neighbours.result.now 0 c.args.levels.now c.args.list.now c.args.before)
    (sym c.from.ensures)
    (widened-first c.args.mol.now c.args.levels.now c.args.list.now c.args.at c.args.before
    c.neighbours-neighbours.result.now c.requires.further)

pub bounds-levels-place : goal.bounds-levels-place
bounds-levels-place c =
    let bond = near_bond c.args.mol.now _ c.neighbours-neighbours.result.now c.loop-neighbour.neighbour-index
    c.neighbours-neighbours.ensures.each c.loop-neighbour-test.true in
    let within = bond_within c.args.mol.now _ _ bond.0 c.neighbours-neighbours.ensures.valid
    (turned c.args.mol.now _ _ bond.0 bond.1) in
    let same : length c.loop-neighbour.levels ≡ length c.args.levels.now = search rules in
    omega (arith, within, c.from-place.ensures, c.requires.room)

space : goal.bounds-list-last
space c =
    let bond = near_bond c.args.mol.now _ c.neighbours-neighbours.result.now c.loop-neighbour.neighbour-index
    c.neighbours-neighbours.ensures.each c.loop-neighbour-test.true in
    let within = bond_within c.args.mol.now _ _ bond.0 c.neighbours-neighbours.ensures.valid
    (turned c.args.mol.now _ _ bond.0 bond.1) in
    let same : length c.loop-neighbour.list ≡ length c.args.list.now = search rules in
    let s = c.requires.spread in
    let less = spread-room c.args.mol.now s.0 s.1 c.loop-neighbour.levels c.loop-neighbour.list c.args.at
    c.loop-neighbour.last c.from-place.result (omega (arith, within, c.from-place.ensures)) c.if-levels-place.true
    (c.loop-neighbour.invariant.spread s.0 s.1 s.2) in
    omega (arith, c.requires.list_room)

few : goal.overflow_add-last
few c =
    let s = c.requires.spread in
    let t = c.loop-neighbour.invariant.spread s.0 s.1 s.2 in
    let below = spread-few c.args.mol.now s.0 s.1 c.loop-neighbour.levels c.loop-neighbour.list c.args.at
    c.loop-neighbour.last t in
    omega (arith, t.sound.graph.few_atoms)

pub bounds-list-last : goal.bounds-list-last
bounds-list-last c = space c

pub offset_bounds-list-last : goal.offset_bounds-list-last
offset_bounds-list-last c =
    let s = c.requires.spread in
    let t = c.loop-neighbour.invariant.spread s.0 s.1 s.2 in
    let below = spread-few c.args.mol.now s.0 s.1 c.loop-neighbour.levels c.loop-neighbour.list c.args.at
    c.loop-neighbour.last t in
    omega (arith, t.sound.graph.few_atoms)

pub overflow_add-last : goal.overflow_add-last
overflow_add-last c = few c

pub loop-neighbour-preserved : goal.loop-neighbour-preserved
loop-neighbour-preserved c =
    let m = c.args.mol.now in
    let ns = c.neighbours-neighbours.result.now in
    let i = c.loop-neighbour.neighbour-index in
    let level : ℕ = get_or c.args.levels.now c.from.result 0 + 1 in
    let s = c.requires.spread in
    let are : AreNeighbours (ends_of m) (get_or c.args.list.now c.args.at 0) ns = c.neighbours-neighbours.ensures.each in
    let bond = near_bond m (get_or c.args.list.now c.args.at 0) ns i are c.loop-neighbour-test.true in
    let kind : BondKind = bond.0 in
    let joined : HasBond m (get_or c.args.list.now c.args.at 0) c.from-place.result kind =
    subst (λ z. HasBond m (get_or c.args.list.now c.args.at 0) z kind) (sym c.from-place.ensures) bond.1 in
    let within : c.from-place.result < length m.atoms = bond_within m c.from-place.result _ kind
    c.neighbours-neighbours.ensures.valid (turned m _ c.from-place.result kind joined) in
    let same : length c.loop-neighbour.levels ≡ length c.args.levels.now = search rules in
    let same_list : length c.loop-neighbour.list ≡ length c.args.list.now = search rules in
    let To = λ (L q : List ℕ) (last : ℕ). IsWidened m c.args.levels.now c.args.list.now c.args.at c.args.before level ns
    (i + 1) L q last in
    elim c.if-levels-place.branch [
      | then-levels-place w ↦
          let new = widened-put m s.0 s.1 c.args.levels.now c.args.list.now c.args.at c.args.before level ns i
          c.loop-neighbour.levels c.loop-neighbour.list c.loop-neighbour.last c.from-place.result (get_or ns i (0, 0)).0
          kind (omega (arith, c.requires.room)) (omega (arith, c.requires.list_room)) c.from-place.ensures
          (sym c.from-place.ensures) within w.if-levels-place.true joined s.2 c.loop-neighbour.invariant in
          subst (λ L. To L c.if-levels-place.list c.if-levels-place.last) (sym w.levels-is)
          (subst (λ q. To (set c.loop-neighbour.levels c.from-place.result level) q c.if-levels-place.last) (sym w.list-is)
          (subst (λ k. To (set c.loop-neighbour.levels c.from-place.result level)
          (set c.loop-neighbour.list c.loop-neighbour.last (get_or ns i (0, 0)).0) k) (sym w.last-is) new))
      | else-levels-place w ↦
          let new = widened-same m s.0 s.1 c.args.levels.now c.args.list.now c.args.at c.args.before level ns i
          c.loop-neighbour.levels c.loop-neighbour.list c.loop-neighbour.last c.from-place.result c.from-place.ensures
          within w.if-levels-place.false s.2 c.loop-neighbour.invariant in
          subst (λ L. To L c.if-levels-place.list c.if-levels-place.last) (sym w.levels-is)
          (subst (λ q. To c.loop-neighbour.levels q c.if-levels-place.last) (sym w.list-is)
          (subst (λ k. To c.loop-neighbour.levels c.loop-neighbour.list k) (sym w.last-is) new))
    ]

pub returns : goal.returns
returns c = record {
  spread = λ start initial s.
      widened-whole c.args.mol.now c.args.levels.now c.args.list.now c.args.at c.args.before
      (get_or c.args.levels.now c.from.result 0 + 1) c.neighbours-neighbours.result.now c.loop-neighbour.neighbour-index
      c.loop-neighbour.levels c.loop-neighbour.list c.loop-neighbour.last start initial
      c.neighbours-neighbours.ensures.each c.loop-neighbour-test.false c.loop-neighbour.invariant s;
}
