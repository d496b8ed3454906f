use Rattle.std.proofs.Common.{ℕ, ◌<◌, ◌≤◌}
use Rattle.smarts_parse.specs.Pattern.{graph_of}
use Rattle.matcher.specs.Route.{IsJoin, join_at, stop_at}
use Rattle.matcher.proofs.route.is_stop.Given as goal

-- the joins so far are such
abbrev pub invariant-loop-number : goal.invariant-loop-number
invariant-loop-number l = (n : ℕ) → n < l.number → (stop_at l.stops l.at).from ≤ n
    → IsJoin (graph_of l.graph) l.stops l.kinds l.at (join_at l.joins n)
