use Rattle.std.proofs.Common.{◌≡◌, ◌++◌, ℕ, ◌<◌, List, false, get_or, slice_index, true}
use Rattle.smarts_mean.specs.Table.{HoldsIn}
use Rattle.smarts_parse.specs.Embedding.{IsEmbedding}
use Rattle.smarts_parse.specs.Pattern.{graph_of}
use Rattle.matcher.proofs.refusal.excludes.Given as goal

-- each marked place so far stands at a marked atom
abbrev pub invariant-loop-place : goal.invariant-loop-place
invariant-loop-place l = (k : ℕ) → k < l.place → get_or l.places k false ≡ true → (rest : List ℕ)
    → IsEmbedding (HoldsIn l.task.table.now) (graph_of l.task.graph.now) l.task.mol.now (l.front ++ rest)
    → get_or l.atoms (slice_index (l.front ++ rest) k) false ≡ true
