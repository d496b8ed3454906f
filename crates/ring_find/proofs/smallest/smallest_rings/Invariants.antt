use Rattle.std.proofs.Common.{◌≡◌, ◌<◌, ℕ, length, slice_index}
use Rattle.ring_find.proofs.Leasts.{IsLeastBefore}
use Rattle.ring_find.proofs.smallest.smallest_rings.Given as goal

abbrev pub invariant-loop-place : goal.invariant-loop-place
invariant-loop-place l =
    record {
      count : length l.small.items ≡ l.graph.atoms;
      each : (v : ℕ) → v < l.graph.atoms → IsLeastBefore l.graph.ends l.lengths l.place v (slice_index l.small.items v);
    }
