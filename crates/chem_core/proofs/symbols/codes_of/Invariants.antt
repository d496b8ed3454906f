use Rattle.std.proofs.Common.{◌≡◌, ◌<◌, ◌≤◌, ℕ, length, slice_get, slice_index}
use Rattle.chem_core.specs.Inside.{code_in}
use Rattle.chem_core.proofs.symbols.codes_of.Given as goal

abbrev pub invariant-loop-place : goal.invariant-loop-place
invariant-loop-place l = record {
  long : length l.codes ≡ 64;
  before : (k : ℕ) → k < l.place → slice_index l.codes k ≡ code_in (slice_get l.atoms k);
  behind : (k : ℕ) → l.place ≤ k → k < 64 → slice_index l.codes k ≡ 255;
}
