use Rattle.std.proofs.Common.{◌≡◌, ◌<◌, ℕ, length, replicate, slice_index}
use Rattle.ring_find.specs.BondRings.{IsSmallestThrough}
use Rattle.ring_find.proofs.search.ring_lengths.Given as goal

abbrev pub invariant-loop-place : goal.invariant-loop-place
invariant-loop-place l =
    record {
      blank : l.marks.items ≡ replicate l.graph.atoms 0;
      count : length l.lengths.items ≡ l.place;
      each : (b : ℕ) → b < l.place → IsSmallestThrough l.graph.ends b (slice_index l.lengths.items b);
    }
