use Rattle.std.proofs.Common.{◌≡◌, ap, take}
use Rattle.std.proofs.lemmas.List.{get_or-replicate, take_all}
use Rattle.chem_core.specs.Sorts.{atom_sort, has_class, is_atom_of}
use Rattle.chem_core.proofs.Sorts.{counted-more, no_atom}
use Rattle.chem_core.proofs.sort_counts.count_atoms.Goals as goal

pub loop-atom-init : goal.loop-atom-init
loop-atom-init c k low = get_or-replicate 8 k 0 0 low

pub loop-atom-preserved : goal.loop-atom-preserved
loop-atom-preserved c =
    let class = rw c.from.ensures at c.class.ensures.value in
    counted-more is_atom_of c.args.atoms.now c.loop-atom.atom-index no_atom c.loop-atom.counts c.add_atom.new.counts
    (λ k. has_class (atom_sort k) c.class.result) c.loop-atom-test.true (λ k. ap (has_class (atom_sort k)) class)
    c.add_atom.ensures c.loop-atom.invariant

pub returns : goal.returns
returns c =
    let all : take c.loop-atom.atom-index c.args.atoms.now ≡ c.args.atoms.now =
    take_all c.loop-atom.atom-index c.args.atoms.now c.loop-atom-test.false in
    rw all at c.loop-atom.invariant
