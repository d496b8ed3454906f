use Rattle.std.proofs.Common.{count_by, min}
use Rattle.chem_core.specs.Sorts.{bond_sort}
use Rattle.smarts_parse.specs.Pattern.{graph_of}
use Rattle.matcher.specs.Counted.{is_sure}
use Rattle.matcher.proofs.Counted.{AreFilled}
use Rattle.matcher.proofs.first_line.count_bonds.Given as goal

abbrev pub invariant-loop-k : goal.invariant-loop-k
invariant-loop-k l = AreFilled (λ k. min 255 (count_by (is_sure (bond_sort k) l.steps) (graph_of l.graph).bonds))
    l.counts l.k
