use Rattle.std.proofs.Common.{◌≡◌, ℕ, ◌<◌, ◌≤◌, length, slice_index, bit_or}
use Rattle.screen_index.proofs.rows.unite.Given as goal

abbrev pub invariant-loop-place : goal.invariant-loop-place
invariant-loop-place l = record {
  length : length l.words ≡ length l.fn.words;
  before : (k : ℕ) → k < l.place → slice_index l.words k ≡ bit_or (slice_index l.fn.words k) (slice_index l.more k);
  behind : (k : ℕ) → l.place ≤ k → slice_index l.words k ≡ slice_index l.fn.words k;
}
