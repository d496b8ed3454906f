use Rattle.std.proofs.Common.{◌≡◌, take}
use Rattle.std.proofs.lemmas.List.{get_or-replicate, take_all}
use Rattle.chem_core.specs.Sorts.{bond_sort, is_bond_of, is_of_sort}
use Rattle.chem_core.proofs.Sorts.{counted-more, no_bond, same-sort}
use Rattle.chem_core.proofs.sort_counts.count_bonds.Goals as goal

pub loop-bond-init : goal.loop-bond-init
loop-bond-init c k low = get_or-replicate 8 k 0 0 low

pub class_in-a-requires : goal.class_in-a-requires
class_in-a-requires c = (c.requires c.loop-bond.bond-index no_bond c.loop-bond-test.true).0

pub class_in-b-requires : goal.class_in-b-requires
class_in-b-requires c = (c.requires c.loop-bond.bond-index no_bond c.loop-bond-test.true).1

pub loop-bond-preserved : goal.loop-bond-preserved
loop-bond-preserved c =
    counted-more (λ k. is_bond_of k c.args.atoms.now) c.args.bonds.now c.loop-bond.bond-index no_bond c.loop-bond.counts
    c.add_bond.new.counts
    (λ k. is_of_sort (bond_sort k) c.kind_number.result c.class_in-a.result c.class_in-b.result) c.loop-bond-test.true
    (λ k. same-sort (bond_sort k) _ _ _ _ _ _ c.kind_number.ensures.value c.class_in-a.ensures.value
    c.class_in-b.ensures.value)
    c.add_bond.ensures c.loop-bond.invariant

pub returns : goal.returns
returns c =
    let all : take c.loop-bond.bond-index c.args.bonds.now ≡ c.args.bonds.now =
    take_all c.loop-bond.bond-index c.args.bonds.now c.loop-bond-test.false in
    rw all at c.loop-bond.invariant
