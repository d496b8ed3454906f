use Rattle.std.proofs.Common.{ℕ, ◌<◌, get_or}
use Rattle.smarts_parse.specs.Embedding.{BondEmbeds}
use Rattle.smarts_parse.specs.Pattern.{BondTerm, graph_of}
use Rattle.matcher.proofs.follow.Search.is_image.Given as goal

-- the bonds so far are as asked
abbrev pub invariant-loop-number : goal.invariant-loop-number
invariant-loop-number l = (k : ℕ) → k < l.number → (d : BondTerm)
    → BondEmbeds l.self.task.now.mol.now l.image (get_or (graph_of l.self.task.now.graph.now).bonds k d)
