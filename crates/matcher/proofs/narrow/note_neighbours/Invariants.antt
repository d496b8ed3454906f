use Rattle.std.proofs.Common.{◌≡◌, ℕ, ◌<◌, get_or, slice_index}
use Rattle.std.specs.Int.{bit_at}
use Rattle.matcher.proofs.Refusals.{no_bond}
use Rattle.matcher.proofs.narrow.note_neighbours.Given as goal

-- each end of a bond so far is near the other
abbrev pub invariant-loop-bond : goal.invariant-loop-bond
invariant-loop-bond l = (k : ℕ) → k < l.bond-index
    → (bit_at (slice_index l.near (get_or l.bonds k no_bond).a) (get_or l.bonds k no_bond).b ≡ 1)
    × (bit_at (slice_index l.near (get_or l.bonds k no_bond).b) (get_or l.bonds k no_bond).a ≡ 1)
