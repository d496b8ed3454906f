use Rattle.std.proofs.Common.{◌≡◌, ℕ, ◌<◌, get_or, slice_index}
use Rattle.std.specs.Int.{bit_at}
use Rattle.chem_core.specs.Graph.{IsRingBond}
use Rattle.chem_core.specs.Molecule.{ends_of}
use Rattle.matcher.proofs.Refusals.{no_bond}
use Rattle.matcher.proofs.narrow.note_ring_neighbours.Given as goal

-- each end of a ring bond so far is near the other
abbrev pub invariant-loop-place : goal.invariant-loop-place
invariant-loop-place l = (k : ℕ) → k < l.place → IsRingBond (ends_of l.mol) k
    → (bit_at (slice_index l.near (get_or l.bonds k no_bond).a) (get_or l.bonds k no_bond).b ≡ 1)
    × (bit_at (slice_index l.near (get_or l.bonds k no_bond).b) (get_or l.bonds k no_bond).a ≡ 1)
