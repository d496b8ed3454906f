use Rattle.std.proofs.Common.{◌≤◌, length}
use Rattle.matcher.proofs.lay.lay_components.Given as goal

-- there is room for those that are laid
abbrev pub invariant-loop-place : goal.invariant-loop-place
invariant-loop-place l = l.laid ≤ length l.stops
