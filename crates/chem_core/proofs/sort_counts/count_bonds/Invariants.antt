use Rattle.std.proofs.Common.{◌≡◌, ◌<◌, ℕ, count_by, min, slice_index, take}
use Rattle.chem_core.specs.Sorts.{is_bond_of}
use Rattle.chem_core.proofs.sort_counts.count_bonds.Given as goal

-- how many of the bonds so far are of each sort
abbrev pub invariant-loop-bond : goal.invariant-loop-bond
invariant-loop-bond l = (k : ℕ) → k < 8
    → slice_index l.counts k ≡ min 255 (count_by (is_bond_of k l.atoms) (take l.bond-index l.bonds))
