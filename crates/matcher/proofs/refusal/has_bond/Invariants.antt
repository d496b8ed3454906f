use Rattle.std.proofs.Common.{ℕ, ◌<◌, List, slice_index}
use Rattle.chem_core.specs.Graph.{JoinsAt}
use Rattle.chem_core.specs.Molecule.{ends_of}
use Rattle.smarts_mean.specs.Table.{HoldsIn}
use Rattle.smarts_parse.specs.Embedding.{IsEmbedding}
use Rattle.smarts_parse.specs.Pattern.{graph_of, term_of}
use Rattle.smarts_parse.specs.Truth.{BondTrue}
use Rattle.matcher.proofs.refusal.has_bond.Given as goal

-- the bond lies at none of the bonds so far
abbrev pub invariant-loop-other : goal.invariant-loop-other
invariant-loop-other l = (b : ℕ) → b < l.other → (image : List ℕ)
    → IsEmbedding (HoldsIn l.task.table.now) (graph_of l.task.graph.now) l.task.mol.now image
    → JoinsAt (ends_of l.task.mol.now) b (slice_index image l.bond.a) (slice_index image l.bond.b)
    → BondTrue (term_of l.bond.expr) l.task.mol.now b → ⊥
