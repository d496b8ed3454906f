use Rattle.std.proofs.Common.{◌≡◌, ◌++◌, ℕ, ◌<◌, List, false, get_or, slice_index, true}
use Rattle.matcher.specs.Group.{BeginsGroup, IsInMarked}
use Rattle.matcher.specs.Task.{Embeds}
use Rattle.matcher.proofs.refusal.excludes_groups.Given as goal

-- each marked place so far begins a group, and stands in a marked component
abbrev pub invariant-loop-place : goal.invariant-loop-place
invariant-loop-place l = (k : ℕ) → k < l.place → get_or l.places k false ≡ true → BeginsGroup l.task k × ((rest : List ℕ)
    → Embeds l.task (l.front ++ rest) → IsInMarked l.task.mol.now l.components (slice_index (l.front ++ rest) k))
