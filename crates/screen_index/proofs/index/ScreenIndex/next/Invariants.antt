use Rattle.std.proofs.Common.{take}
use Rattle.screen_index.specs.Pairs.{joined, rank}
use Rattle.screen_index.proofs.Nexts.{NoneWanted}
use Rattle.screen_index.proofs.index.ScreenIndex.next.Given as goal

abbrev pub invariant-loop-place : goal.invariant-loop-place
invariant-loop-place g l =
    NoneWanted l.want (rank l.fn.from.0 l.fn.from.1) (joined (take l.place l.self-inside.blocks.items))
