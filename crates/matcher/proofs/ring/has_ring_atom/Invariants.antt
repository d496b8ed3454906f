use Rattle.std.proofs.Common.{◌≡◌, ◌+◌, ◌<◌, ℕ, Contains, List, length, slice_index}
use Rattle.chem_core.specs.Graph.{IsSimpleCycle}
use Rattle.chem_core.specs.Molecule.{ends_of}
use Rattle.matcher.specs.Task.{Embeds}
use Rattle.matcher.proofs.ring.has_ring_atom.Given as goal

-- the place stands at none of the atoms so far, where it stands on a ring of as many atoms
abbrev pub invariant-loop-atom : goal.invariant-loop-atom
invariant-loop-atom l = (a : ℕ) → a < l.atom → (image : List ℕ) → Embeds l.task image → slice_index image l.place ≡ a
    → (ring : List ℕ) → IsSimpleCycle (ends_of l.task.mol.now) ring → Contains ring a → length ring ≡ l.links + 1 → ⊥
