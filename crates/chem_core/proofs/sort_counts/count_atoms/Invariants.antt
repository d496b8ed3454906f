use Rattle.std.proofs.Common.{◌≡◌, ◌<◌, ℕ, count_by, min, slice_index, take}
use Rattle.chem_core.specs.Sorts.{is_atom_of}
use Rattle.chem_core.proofs.sort_counts.count_atoms.Given as goal

-- how many of the atoms so far are of each sort
abbrev pub invariant-loop-atom : goal.invariant-loop-atom
invariant-loop-atom l = (k : ℕ) → k < 8
    → slice_index l.counts k ≡ min 255 (count_by (is_atom_of k) (take l.atom-index l.atoms))
