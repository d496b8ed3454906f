use Rattle.std.proofs.Common.{◌≡◌, map, take, vec_capacity}
use Rattle.screen_index.specs.Pairs.{column_of}
use Rattle.screen_index.proofs.block.list_columns.Given as goal

abbrev pub invariant-loop-entry : goal.invariant-loop-entry
invariant-loop-entry g l = record {
  capacity : vec_capacity l.columns ≡ vec_capacity l.fn.columns;
  listed : l.columns.items ≡ map column_of (take l.entry-index l.entries);
}
