use Rattle.std.proofs.Common.{cond}
use Rattle.chem_core.specs.Sorts.{atom_sort, has_class}
use Rattle.chem_core.proofs.Sorts.{AreRaised}
use Rattle.chem_core.proofs.sort_counts.add_atom.Given as goal

abbrev pub invariant-loop-k : goal.invariant-loop-k
invariant-loop-k l = AreRaised (λ k. cond (has_class (atom_sort k) l.class) 1 0) l.fn.counts l.counts l.k
