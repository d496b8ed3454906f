use Rattle.std.proofs.Common.{◌≢◌, ℕ, ◌<◌, get_or}
use Rattle.exact_find.proofs.fit.kind_between.Given as goal

abbrev pub invariant-loop-neighbour : goal.invariant-loop-neighbour
invariant-loop-neighbour l = (k : ℕ) → k < l.neighbour-index → (get_or l.neighbours k (0, 0)).0 ≢ l.other
