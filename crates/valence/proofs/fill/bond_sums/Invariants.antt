use Rattle.std.proofs.Common.{◌≡◌, ℕ, length, take, sum_by, slice_index}
use Rattle.valence.specs.Valence.{adds}
use Rattle.valence.proofs.fill.bond_sums.Given as goal

abbrev pub invariant-loop-bond : goal.invariant-loop-bond
invariant-loop-bond l = record {
  long : length l.sums ≡ 999;
  each : (a : ℕ) → slice_index l.sums a ≡ sum_by (adds a) (take l.bond-index l.bonds);
}
