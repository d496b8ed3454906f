use Rattle.exact_find.proofs.Walks.{IsDone}
use Rattle.exact_find.proofs.walk.pair_all.Given as goal

abbrev pub invariant-loop-atom : goal.invariant-loop-atom
invariant-loop-atom l = IsDone l.left l.right l.atom l.count l.pairs
