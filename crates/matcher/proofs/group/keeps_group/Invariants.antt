use Rattle.std.proofs.Common.{◌≡◌, ◌≢◌, ◌↔◌, ℕ, ◌<◌, length, slice_index}
use Rattle.chem_core.specs.Component.{Reaches}
use Rattle.chem_core.specs.Molecule.{ends_of}
use Rattle.matcher.specs.Group.{group_at}
use Rattle.matcher.proofs.group.keeps_group.Given as goal

-- so it is of the places so far
abbrev pub invariant-loop-place : goal.invariant-loop-place
invariant-loop-place l = (q : ℕ) → q < l.place → slice_index l.taken q < length l.task.mol.now.atoms
    → group_at l.task q ≢ 0
    → (group_at l.task q ≡ l.group) ↔ Reaches (ends_of l.task.mol.now) (slice_index l.taken q) l.atom
