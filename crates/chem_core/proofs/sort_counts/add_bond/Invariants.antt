use Rattle.std.proofs.Common.{cond}
use Rattle.chem_core.specs.Sorts.{bond_sort, is_of_sort}
use Rattle.chem_core.proofs.Sorts.{AreRaised}
use Rattle.chem_core.proofs.sort_counts.add_bond.Given as goal

abbrev pub invariant-loop-k : goal.invariant-loop-k
invariant-loop-k l = AreRaised (λ k. cond (is_of_sort (bond_sort k) l.kind l.a l.b) 1 0) l.fn.counts l.counts l.k
