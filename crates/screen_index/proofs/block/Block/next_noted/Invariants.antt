use Rattle.std.specs.List.{AllWithin}
use Rattle.screen_index.specs.Pairs.{IsWanted, rank}
use Rattle.screen_index.proofs.block.Block.next_noted.Given as goal

abbrev pub invariant-loop-place : goal.invariant-loop-place
invariant-loop-place g l = AllWithin (λ x. ¬ IsWanted l.want (rank l.fn.from.0 l.fn.from.1) x) l.self 0 l.place
