use Rattle.exact_find.proofs.Near.{IsCarriedBelow}
use Rattle.exact_find.specs.Pairs.{flip}
use Rattle.exact_find.proofs.fit.is_carried_back.Given as goal

abbrev pub invariant-loop-neighbour : goal.invariant-loop-neighbour
invariant-loop-neighbour l = IsCarriedBelow l.right l.left (flip l.pairs) l.b l.a l.neighbours l.neighbour-index
