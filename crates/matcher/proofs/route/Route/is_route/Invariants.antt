use Rattle.std.proofs.Common.{◌≡◌, ◌≢◌, ◌%◌, ℕ, ◌<◌}
use Rattle.std.specs.Int.{bit_at}
use Rattle.smarts_parse.specs.Pattern.{graph_of}
use Rattle.matcher.specs.Route.{IsStop, stop_at}
use Rattle.matcher.proofs.route.Route.is_route.Given as goal

-- the stops so far are such, at different places, which are seen
abbrev pub invariant-loop-at : goal.invariant-loop-at
invariant-loop-at l = record {
  each : (k : ℕ) → k < l.at → IsStop (graph_of l.graph) l.stops l.joins l.kinds k;
  apart : (i k : ℕ) → i < k → k < l.at → (stop_at l.stops i).place ≢ (stop_at l.stops k).place;
  seen : (i : ℕ) → i < l.at → bit_at l.seen ((stop_at l.stops i).place % 64) ≡ 1;
}
