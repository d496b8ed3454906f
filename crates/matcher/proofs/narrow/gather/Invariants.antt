use Rattle.std.proofs.Common.{◌≡◌, ℕ, ◌<◌, length}
use Rattle.smarts_parse.specs.Pattern.{graph_of}
use Rattle.matcher.specs.Narrow.{around_at}
use Rattle.matcher.proofs.Narrowings.{IsGathered}
use Rattle.matcher.proofs.narrow.gather.Given as goal

-- nothing is around the places so far
abbrev pub invariant-loop-place : goal.invariant-loop-place
invariant-loop-place l = (p : ℕ) → p < l.place → around_at l.around p ≡ record { count = 0; atoms = 0 }

-- what the bonds so far lead to from each place
abbrev pub invariant-loop-index : goal.invariant-loop-index
invariant-loop-index l = (p : ℕ) → p < length l.task.graph.now.atoms.items
    → IsGathered (graph_of l.task.graph.now) l.marks l.words p l.index (around_at l.around p)
