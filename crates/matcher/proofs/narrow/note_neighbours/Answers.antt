use Rattle.std.proofs.Common.{◌≡◌, ap, arith, below_more, get_or, length, refl, slice_index, subst}
use Rattle.std.specs.Int.{bit_at}
use Rattle.matcher.proofs.Narrowings.{ends_among, near_all}
use Rattle.matcher.proofs.Refusals.{no_bond}
use Rattle.matcher.proofs.narrow.note_neighbours.Goals as goal

pub join-requires-clause-atom : goal.join-requires-clause-atom
join-requires-clause-atom c =
    let h = (ends_among c.args.mol.now c.bonds-bonds.result.now c.loop-bond.bond-index c.bonds-bonds.ensures.value
    c.bonds-bonds.ensures.valid c.loop-bond-test.true).0 in
    omega arith

pub join-requires-clause-other : goal.join-requires-clause-other
join-requires-clause-other c =
    let h = (ends_among c.args.mol.now c.bonds-bonds.result.now c.loop-bond.bond-index c.bonds-bonds.ensures.value
    c.bonds-bonds.ensures.valid c.loop-bond-test.true).1 in
    omega arith

pub join-requires-in-loop-bond-clause-atom : goal.join-requires-in-loop-bond-clause-atom
join-requires-in-loop-bond-clause-atom c =
    let h = (ends_among c.args.mol.now c.bonds-bonds.result.now c.loop-bond.bond-index c.bonds-bonds.ensures.value
    c.bonds-bonds.ensures.valid c.loop-bond-test.true).1 in
    omega arith

pub join-requires-in-loop-bond-clause-other : goal.join-requires-in-loop-bond-clause-other
join-requires-in-loop-bond-clause-other c =
    let h = (ends_among c.args.mol.now c.bonds-bonds.result.now c.loop-bond.bond-index c.bonds-bonds.ensures.value
    c.bonds-bonds.ensures.valid c.loop-bond-test.true).0 in
    omega arith

pub loop-bond-preserved : goal.loop-bond-preserved
loop-bond-preserved c = below_more _ _
    (λ k l. let old = c.loop-bond.invariant k l in (
      c.join-in-loop-bond.ensures.kept _ _ (c.join.ensures.kept _ _ old.0),
      c.join-in-loop-bond.ensures.kept _ _ (c.join.ensures.kept _ _ old.1),
    ))
    (c.join-in-loop-bond.ensures.kept _ _ (c.join.ensures.here refl), c.join-in-loop-bond.ensures.here refl)

pub returns : goal.returns
returns c = λ _.
    let near = c.loop-bond.near in
    near_all c.args.mol.now near c.bonds-bonds.ensures.valid
    (λ k l. subst (λ bs. (bit_at (slice_index near (get_or bs k no_bond).a) (get_or bs k no_bond).b ≡ 1)
    × (bit_at (slice_index near (get_or bs k no_bond).b) (get_or bs k no_bond).a ≡ 1)) c.bonds-bonds.ensures.value
    (c.loop-bond.invariant k (omega (arith, l, ap length c.bonds-bonds.ensures.value, c.loop-bond-test.false))))
