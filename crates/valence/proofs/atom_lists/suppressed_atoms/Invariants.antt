use Rattle.std.proofs.Common.{◌≡◌, ◌<◌, ◌≤◌, ℕ, length, slice_index_or, false}
use Rattle.valence.specs.Suppressed.{is_suppressed}
use Rattle.valence.proofs.atom_lists.suppressed_atoms.Given as goal

abbrev pub invariant-loop-place : goal.invariant-loop-place
invariant-loop-place l = record {
  long : length l.goes ≡ 999;
  known : (a : ℕ) → a < l.place → slice_index_or l.goes a false
      ≡ is_suppressed (record { atoms = l.atoms; bonds = l.bonds }) a;
  later : (a : ℕ) → l.place ≤ a → slice_index_or l.goes a false ≡ false;
}
