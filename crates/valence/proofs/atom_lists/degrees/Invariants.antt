use Rattle.std.proofs.Common.{◌≡◌, ℕ, length, take, slice_index, count_by}
use Rattle.chem_core.specs.Sketch.{ends_at}
use Rattle.valence.proofs.atom_lists.degrees.Given as goal

abbrev pub invariant-loop-bond : goal.invariant-loop-bond
invariant-loop-bond l = record {
  long : length l.degrees ≡ 999;
  each : (a : ℕ) → slice_index l.degrees a ≡ count_by (ends_at a) (take l.bond-index l.bonds);
}
