use Rattle.std.proofs.Common.{◌≡◌, ◌-◌, ◌≤◌, drop, filter, length, vec_capacity, vec_len}
use Rattle.screen_index.specs.Pairs.{AreBlocks, is_apart, joined}
use Rattle.screen_index.proofs.index.drop_all.Given as goal

abbrev pub invariant-loop-done : goal.invariant-loop-done
invariant-loop-done g l = record {
  within : l.done ≤ length l.places;
  entries : filter (is_apart (drop l.done l.places)) (joined l.blocks.items)
      ≡ filter (is_apart l.places) (joined l.fn.blocks.items);
  blocks : AreBlocks l.blocks.items;
  len : vec_len l.blocks ≤ vec_len l.fn.blocks;
  capacity : vec_capacity l.blocks ≡ vec_capacity l.fn.blocks;
}

abbrev pub decreases-loop-done : goal.decreases-loop-done
decreases-loop-done g l = length l.places - l.done
