use Rattle.std.proofs.Common.{take}
use Rattle.matcher.specs.Task.{IsPlaced}
use Rattle.matcher.proofs.hunt.is_whole.Given as goal

-- the places so far stand as they are to
abbrev pub invariant-loop-placed : goal.invariant-loop-placed
invariant-loop-placed l = IsPlaced l.task (take l.placed l.image)
