use Rattle.std.proofs.Common.{ℕ, ◌+◌, ◌*◌, ◌<◌, ◌≤◌, ◌≡◌, ◌⊎◌, length, get_or}
use Rattle.std.specs.Prelude.{Some, slice_get}
use Rattle.path_print.proofs.rows.write_row.Given as goal

-- the places so far are written, and no other row
abbrev pub invariant-loop-place : goal.invariant-loop-place
invariant-loop-place l = record {
  size : length l.rows ≡ 65536;
  row : (k : ℕ) (end : ℕ × ℕ) → k < l.place → slice_get l.ends k ≡ Some end
      → get_or l.rows (256 * l.atom + k) 0 ≡ end.1;
  others : (i : ℕ) → (i < 256 * l.atom) ⊎ (256 * l.atom + 256 ≤ i) → get_or l.rows i 0 ≡ get_or l.fn.rows i 0;
}
