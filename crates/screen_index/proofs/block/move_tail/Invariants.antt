use Rattle.std.proofs.Common.{◌≡◌, ◌+◌, ◌++◌, ◌≤◌, length, vec_capacity, vec_len}
use mathlib.Core.List.{reverse}
use Rattle.screen_index.proofs.block.move_tail.Given as goal

abbrev pub invariant-loop-entries : goal.invariant-loop-entries
invariant-loop-entries g l = record {
  whole : l.entries.items ++ reverse l.upper.items ≡ l.fn.entries.items;
  within : l.index ≤ length l.entries.items;
  room : length l.entries.items + length l.upper.items ≤ l.index + vec_capacity l.upper;
  capacity : vec_capacity l.entries ≡ vec_capacity l.fn.entries;
  upper_capacity : vec_capacity l.upper ≡ vec_capacity l.fn.upper;
}

abbrev pub decreases-loop-entries : goal.decreases-loop-entries
decreases-loop-entries g l = vec_len l.entries
