use Rattle.std.proofs.Common.{◌≡◌, ◌++◌, ℕ, ◌<◌, List, false, get_or, slice_index, true}
use Rattle.smarts_mean.specs.Table.{HoldsIn}
use Rattle.smarts_parse.specs.Embedding.{IsEmbedding}
use Rattle.smarts_parse.specs.Pattern.{graph_of}
use Rattle.matcher.proofs.refusal.stays_within.Given as goal

-- where the place stands at one of the atoms so far, that is marked
abbrev pub invariant-loop-atom : goal.invariant-loop-atom
invariant-loop-atom l = (a : ℕ) → a < l.atom → (rest : List ℕ)
    → IsEmbedding (HoldsIn l.task.table.now) (graph_of l.task.graph.now) l.task.mol.now (l.front ++ rest)
    → slice_index (l.front ++ rest) l.place ≡ a → get_or l.atoms a false ≡ true
