use Rattle.std.proofs.Common.{◌≡◌, ℕ, length, take, slice_index, slice_index_or, count_by, false}
use Rattle.valence.specs.Suppressed.{brings}
use Rattle.valence.proofs.atom_lists.gains.Given as goal

abbrev pub invariant-loop-bond : goal.invariant-loop-bond
invariant-loop-bond l = record {
  long : length l.gains ≡ 999;
  each : (a : ℕ) → slice_index l.gains a ≡ count_by (brings (λ k. slice_index_or l.goes k false) a)
      (take l.bond-index l.bonds);
}
