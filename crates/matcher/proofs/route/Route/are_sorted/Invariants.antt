use Rattle.std.proofs.Common.{ℕ, ◌<◌}
use Rattle.smarts_parse.specs.Pattern.{graph_of}
use Rattle.matcher.specs.Route.{IsSorted}
use Rattle.matcher.proofs.route.Route.are_sorted.Given as goal

-- the bonds so far are sorted
abbrev pub invariant-loop-number : goal.invariant-loop-number
invariant-loop-number l = (n : ℕ) → n < l.number → IsSorted (graph_of l.graph) l.kinds l.sets n
