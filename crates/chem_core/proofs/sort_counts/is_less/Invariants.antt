use Rattle.std.proofs.Common.{◌≡◌, ◌↔◌, true}
use Rattle.chem_core.proofs.Sorts.{LessBefore}
use Rattle.chem_core.proofs.sort_counts.is_less.Given as goal

-- whether one of those so far is less
abbrev pub invariant-loop-k : goal.invariant-loop-k
invariant-loop-k l = (l.less ≡ true) ↔ LessBefore l.counts l.asked l.k
