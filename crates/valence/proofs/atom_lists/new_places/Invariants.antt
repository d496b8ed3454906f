use Rattle.std.proofs.Common.{◌≡◌, ◌<◌, ℕ, length, slice_index, slice_index_or, false}
use Rattle.valence.specs.Suppressed.{new_place}
use Rattle.valence.proofs.atom_lists.new_places.Given as goal

abbrev pub invariant-loop-place : goal.invariant-loop-place
invariant-loop-place l = record {
  long : length l.places ≡ 999;
  count : l.kept ≡ new_place (λ k. slice_index_or l.goes k false) l.place;
  each : (a : ℕ) → a < l.place → slice_index l.places a ≡ new_place (λ k. slice_index_or l.goes k false) a;
}
