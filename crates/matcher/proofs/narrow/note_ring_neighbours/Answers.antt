use Rattle.std.proofs.Common.{◌≡◌, ◌∙◌, ap, arith, below_more, get_or, length, slice_index, subst}
use Rattle.std.specs.Int.{bit_at, from_bool}
use Rattle.matcher.proofs.Narrowings.{ends_among, ring_near_all}
use Rattle.matcher.proofs.Refusals.{no_bond}
use Rattle.matcher.proofs.narrow.note_ring_neighbours.Goals as goal

pub join-requires-clause-atom : goal.join-requires-clause-atom
join-requires-clause-atom c =
    let h = (ends_among c.args.mol.now c.bonds-bonds.result.now c.from.result c.bonds-bonds.ensures.value
    c.bonds-bonds.ensures.valid (omega (arith, c.from.ensures, c.loop-place-test.true))).0 in
    omega arith

pub join-requires-clause-other : goal.join-requires-clause-other
join-requires-clause-other c =
    let h = (ends_among c.args.mol.now c.bonds-bonds.result.now c.from.result c.bonds-bonds.ensures.value
    c.bonds-bonds.ensures.valid (omega (arith, c.from.ensures, c.loop-place-test.true))).1 in
    omega arith

pub join-requires-in-loop-place-clause-atom : goal.join-requires-in-loop-place-clause-atom
join-requires-in-loop-place-clause-atom c =
    let h = (ends_among c.args.mol.now c.bonds-bonds.result.now c.from.result c.bonds-bonds.ensures.value
    c.bonds-bonds.ensures.valid (omega (arith, c.from.ensures, c.loop-place-test.true))).1 in
    omega arith

pub join-requires-in-loop-place-clause-other : goal.join-requires-in-loop-place-clause-other
join-requires-in-loop-place-clause-other c =
    let h = (ends_among c.args.mol.now c.bonds-bonds.result.now c.from.result c.bonds-bonds.ensures.value
    c.bonds-bonds.ensures.valid (omega (arith, c.from.ensures, c.loop-place-test.true))).0 in
    omega arith

pub loop-place-preserved : goal.loop-place-preserved
loop-place-preserved c =
    let new = c.join-in-loop-place.new.near in
    let bonds = c.bonds-bonds.result.now in
    below_more _ _
    (λ k l ring. let old = c.loop-place.invariant k l ring in (
      c.join-in-loop-place.ensures.kept _ _ (c.join.ensures.kept _ _ old.0),
      c.join-in-loop-place.ensures.kept _ _ (c.join.ensures.kept _ _ old.1),
    ))
    (λ ring. let one = c.from-ring.ensures ∙ ap from_bool (c.ring_bond.ensures.1 ring) in
    subst (λ i. (bit_at (slice_index new (get_or bonds i no_bond).a) (get_or bonds i no_bond).b ≡ 1)
    × (bit_at (slice_index new (get_or bonds i no_bond).b) (get_or bonds i no_bond).a ≡ 1)) c.from.ensures
    (c.join-in-loop-place.ensures.kept _ _ (c.join.ensures.here one), c.join-in-loop-place.ensures.here one))

pub returns : goal.returns
returns c = λ _.
    let near = c.loop-place.near in
    ring_near_all c.args.mol.now near c.bonds-bonds.ensures.valid
    (λ k l ring. subst (λ bs. (bit_at (slice_index near (get_or bs k no_bond).a) (get_or bs k no_bond).b ≡ 1)
    × (bit_at (slice_index near (get_or bs k no_bond).b) (get_or bs k no_bond).a ≡ 1)) c.bonds-bonds.ensures.value
    (c.loop-place.invariant k (omega (arith, l, ap length c.bonds-bonds.ensures.value, c.loop-place-test.false)) ring))
