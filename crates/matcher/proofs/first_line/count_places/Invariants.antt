use Rattle.std.proofs.Common.{count_by, min}
use Rattle.chem_core.specs.Sorts.{atom_sort}
use Rattle.matcher.specs.Class.{is_within}
use Rattle.matcher.proofs.Counted.{AreFilled}
use Rattle.matcher.proofs.first_line.count_places.Given as goal

abbrev pub invariant-loop-k : goal.invariant-loop-k
invariant-loop-k l = AreFilled (λ k. min 255 (count_by (is_within (atom_sort k)) l.places)) l.counts l.k
