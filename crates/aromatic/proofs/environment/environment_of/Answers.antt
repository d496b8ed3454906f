use Rattle.std.proofs.Common.{sym, subst, arith, take, zip}
use Rattle.std.proofs.lemmas.List.{take_all}
use Rattle.std.proofs.lemmas.Slice.Zip.{length-zip}
use Rattle.aromatic.specs.Counts.{HasFewBonds}
use Rattle.aromatic.proofs.Sketches.{bond-in_graph, few_pairs, some_element, environment-more, environment_among-small}
use Rattle.aromatic.proofs.environment.environment_of.Goals as goal

pub count_bond-requires-clause-a_in_range : goal.count_bond-requires-clause-a_in_range
count_bond-requires-clause-a_in_range c =
    (bond-in_graph _ _ c.loop-place.place _ c.requires.sound.graph c.loop-place-test.true).0

pub count_bond-requires-clause-b_in_range : goal.count_bond-requires-clause-b_in_range
count_bond-requires-clause-b_in_range c =
    (bond-in_graph _ _ c.loop-place.place _ c.requires.sound.graph c.loop-place-test.true).1

pub count_bond-requires-clause-small : goal.count_bond-requires-clause-small
count_bond-requires-clause-small c =
    let there = some_element c.args.atoms.now c.args.atom c.requires.in_range in
    let few = few_pairs _ c.args.bonds.now c.args.bond_in_ring.now c.loop-place.place c.requires.sound.graph in
    subst (λ x. HasFewBonds x) (sym (c.loop-place.invariant there.0 there.1))
    (environment_among-small c.args.atoms.now c.args.atom
    there.0 (take c.loop-place.place (zip c.args.bonds.now c.args.bond_in_ring.now)) few)

pub loop-place-preserved : goal.loop-place-preserved
loop-place-preserved c = λ x is.
    environment-more c.args.atoms.now c.args.bonds.now c.args.bond_in_ring.now c.args.atom c.loop-place.place x _
    c.loop-place.environment c.count_bond.new.environment c.loop-place-test.true c.requires.rings
    (c.loop-place.invariant x is)
    c.count_bond.ensures

pub returns : goal.returns
returns c = λ x is.
    let whole = take_all c.loop-place.place (zip c.args.bonds.now c.args.bond_in_ring.now)
    (omega (arith, length-zip c.args.bonds.now c.args.bond_in_ring.now)) in
    rw whole at (c.loop-place.invariant x is)
