use Rattle.std.proofs.Common.{◌≤◌, length}
use Rattle.matcher.proofs.ring.find_closing.Given as goal

-- there is room for those that are found
abbrev pub invariant-loop-place : goal.invariant-loop-place
invariant-loop-place l = l.count ≤ length l.found
