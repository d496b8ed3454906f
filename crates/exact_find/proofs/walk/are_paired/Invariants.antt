use Rattle.std.proofs.Common.{◌<◌, ℕ, get_or}
use Rattle.exact_find.specs.Pairs.{IsPaired, flip}
use Rattle.exact_find.proofs.walk.are_paired.Given as goal

abbrev pub invariant-loop-neighbour : goal.invariant-loop-neighbour
invariant-loop-neighbour l = (k : ℕ) → k < l.neighbour-index → IsPaired (flip l.pairs) (get_or l.neighbours k (0, 0)).0
