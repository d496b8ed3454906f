use Rattle.std.proofs.Common.{◌≡◌, ℕ, ◌+◌, ◌*◌, ◌<◌, slice_index}
use Rattle.matcher.specs.Candidates.{IsTruthAt}
use Rattle.matcher.proofs.candidates.find_block.Given as goal

-- the words of the places so far are found
abbrev pub invariant-loop-place : goal.invariant-loop-place
invariant-loop-place l = record {
  here : (p : ℕ) → p < l.place → IsTruthAt l.task l.block p (slice_index l.words (256 * l.block + p));
  before : (k : ℕ) → k < 256 * l.block → slice_index l.words k ≡ slice_index l.initial.words k;
}
