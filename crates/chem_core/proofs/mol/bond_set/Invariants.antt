use Rattle.std.proofs.Common.{◌≡◌, ◌*◌, ◌<◌, ◌≤◌, ℕ, false, length, slice_index_or}
use Rattle.chem_core.specs.Words.{bits_of}
use Rattle.chem_core.proofs.mol.bond_set.Given as goal

abbrev pub invariant-loop-bond : goal.invariant-loop-bond
invariant-loop-bond l = record {
  room : length l.flags ≤ 64 * length l.set.items;
  before : (k : ℕ) → k < l.bond → slice_index_or (bits_of l.set.items) k false ≡ slice_index_or l.flags k false;
  behind : (k : ℕ) → l.bond ≤ k → slice_index_or (bits_of l.set.items) k false ≡ false;
}
