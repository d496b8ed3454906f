use Rattle.chem_core.specs.Graph.{IsSimpleGraph}
use Rattle.chem_core.specs.Sound.{ends_among}
use Rattle.reading_rows.proofs.tests.rings.sketch_of.Given as goal

abbrev pub invariant-loop-a : goal.invariant-loop-a
invariant-loop-a l = IsSimpleGraph l.atoms (ends_among l.put.items)
