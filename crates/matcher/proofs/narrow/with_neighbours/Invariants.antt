use Rattle.std.proofs.Common.{◌≡◌, ℕ, ◌<◌, ◌≤◌, bit_and, slice_index}
use Rattle.std.specs.Int.{bit_at}
use Rattle.std.specs.Prelude.{count_ones}
use Rattle.matcher.proofs.narrow.with_neighbours.Given as goal

-- those that have enough neighbours are kept
abbrev pub invariant-loop : goal.invariant-loop
invariant-loop l = record {
  kept : (a : ℕ) → a < 64 → bit_at l.from a ≡ 1
      → l.around.count ≤ count_ones (bit_and (slice_index l.near a) l.around.atoms) → bit_at l.kept a ≡ 1;
  within : (a : ℕ) → bit_at l.kept a ≡ 1 → bit_at l.from a ≡ 1;
}
