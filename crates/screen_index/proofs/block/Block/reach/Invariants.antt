use Rattle.std.proofs.Common.{◌≡◌, ◌-◌, ◌≤◌, false, length}
use Rattle.std.specs.List.{AllWithin}
use Rattle.screen_index.specs.Pairs.{ends_before, rank}
use Rattle.screen_index.proofs.block.Block.reach.Given as goal

abbrev pub invariant-loop-count : goal.invariant-loop-count
invariant-loop-count g l = (l.count ≤ length l.places)
    × AllWithin (λ p. ends_before (rank p.0 p.1) l.self ≡ false) l.places 0 l.count

abbrev pub decreases-loop-count : goal.decreases-loop-count
decreases-loop-count g l = length l.places - l.count
