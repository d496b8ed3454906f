use Rattle.std.proofs.Common.{◌≡◌, ◌++◌, ℕ, ◌<◌, List, slice_index}
use Rattle.matcher.specs.Group.{IsInMarked}
use Rattle.matcher.specs.Task.{Embeds}
use Rattle.matcher.proofs.refusal.stays_in.Given as goal

-- where the place stands at one of the atoms so far, its component is marked
abbrev pub invariant-loop-atom : goal.invariant-loop-atom
invariant-loop-atom l = (a : ℕ) → a < l.atom → (rest : List ℕ) → Embeds l.task (l.front ++ rest)
    → slice_index (l.front ++ rest) l.place ≡ a → IsInMarked l.task.mol.now l.components a
