use Rattle.exact_find.proofs.Near.{IsCarriedBelow}
use Rattle.exact_find.proofs.fit.is_carried.Given as goal

abbrev pub invariant-loop-neighbour : goal.invariant-loop-neighbour
invariant-loop-neighbour l = IsCarriedBelow l.left l.right l.pairs l.a l.b l.neighbours l.neighbour-index
