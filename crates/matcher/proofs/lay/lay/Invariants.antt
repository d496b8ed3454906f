use Rattle.std.proofs.Common.{◌≤◌, length}
use Rattle.matcher.proofs.lay.lay.Given as goal

-- there is room for those that are laid
abbrev pub invariant-loop : goal.invariant-loop
invariant-loop l = l.laid.count ≤ length l.stops
