use Rattle.std.proofs.Common.{ℕ, ◌<◌, ◌≡◌, length, get_or}
use Rattle.path_print.specs.Squares.{IsRow}
use Rattle.path_print.proofs.rows.fill_rows.Given as goal

-- the rows of the atoms so far
abbrev pub invariant-loop-atom : goal.invariant-loop-atom
invariant-loop-atom l = record {
  room : length l.ends ≡ 256;
  rows_room : length l.rows ≡ 65536;
  counts_room : length l.counts ≡ 256;
  each : (x : ℕ) → x < l.atom → IsRow l.atoms l.square l.rows x (get_or l.counts x 0);
}
