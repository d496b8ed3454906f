use Rattle.std.proofs.Common.{◌≡◌, ◌<◌, ◌*◌, ◌+◌, ◌-◌, ℕ, List, get_or, length, slice_index}
use Rattle.std.specs.Int.{bit_at}
use Rattle.matcher.specs.Hunt.{Continues, stop_at}
use Rattle.matcher.proofs.hunt.+hunt.Given as goal

-- the stops that are still to be placed
abbrev pub decreases-may_continue : goal.decreases-may_continue
decreases-may_continue l = 4 * (length l.stops.now - l.placed) + 3

abbrev pub decreases-continues_anywhere : goal.decreases-continues_anywhere
decreases-continues_anywhere l = 4 * (length l.stops.now - l.placed) + 2

abbrev pub decreases-continues_in : goal.decreases-continues_in
decreases-continues_in l = 4 * (length l.stops.now - l.placed) + 1

abbrev pub decreases-continues_in-loop-left : goal.decreases-continues_in-loop-left
decreases-continues_in-loop-left l = l.left

abbrev pub decreases-continues_near : goal.decreases-continues_near
decreases-continues_near l = 4 * (length l.stops.now - l.placed) + 1

abbrev pub decreases-continues_at : goal.decreases-continues_at
decreases-continues_at l = 4 * (length l.stops.now - l.placed)

-- at no atom of the blocks so far can the next place stand
abbrev pub invariant-continues_anywhere-loop-block : goal.invariant-continues_anywhere-loop-block
invariant-continues_anywhere-loop-block l = record {
  kept : l.image ≡ l.initial.image;
  none : (a : ℕ) → a < 64 * l.block → (whole : List ℕ) → Continues l.task l.initial.image whole
      → slice_index whole (stop_at l.stops l.placed).place ≡ a → ⊥;
}

-- of the block it can stand only at atoms that are left, of those that were free
abbrev pub invariant-continues_in-loop-left : goal.invariant-continues_in-loop-left
invariant-continues_in-loop-left l = record {
  kept : l.image ≡ l.initial.image;
  within : (i : ℕ) → i < 64 → bit_at l.left i ≡ 1 → bit_at l.initial.left i ≡ 1;
  only : (whole : List ℕ) → Continues l.task l.initial.image whole → (i : ℕ) → i < 64
      → slice_index whole (stop_at l.stops l.placed).place ≡ 64 * l.block + i → bit_at l.left i ≡ 1;
}

-- at no neighbour so far can it stand
abbrev pub invariant-continues_near-loop-atom : goal.invariant-continues_near-loop-atom
invariant-continues_near-loop-atom l = record {
  kept : l.image ≡ l.initial.image;
  none : (k : ℕ) → k < l.atom-index → (whole : List ℕ) → Continues l.task l.initial.image whole
      → slice_index whole (stop_at l.stops l.placed).place ≡ (get_or l.neighbours k (0, 0)).0 → ⊥;
}
