use Rattle.std.proofs.Common.{◌≡◌, ℕ, ◌+◌, ◌<◌, get_or, length, slice_index}
use Rattle.std.specs.Int.{bit_at}
use Rattle.chem_core.specs.Sorts.{kind_number}
use Rattle.matcher.proofs.Follows.{IsJoinedBy}
use Rattle.matcher.proofs.Refusals.{no_bond}
use Rattle.matcher.proofs.follow.note_joined.Given as goal

-- the words so far are empty, and earlier ones are kept
abbrev pub invariant-loop-atom : goal.invariant-loop-atom
invariant-loop-atom l = record {
  empty : (k : ℕ) → k < l.atom → slice_index l.joined (l.start + k) ≡ 0;
  before : (k : ℕ) → k < l.start → slice_index l.joined k ≡ slice_index l.initial.joined k;
}

-- each end of a bond so far, if it is of the kinds, is in the word of the other, and nothing else
abbrev pub invariant-loop-bond : goal.invariant-loop-bond
invariant-loop-bond l = record {
  here : (k : ℕ) → k < l.bond-index → bit_at l.kinds (kind_number (get_or l.bonds k no_bond).kind) ≡ 1
      → (bit_at (slice_index l.joined (l.start + (get_or l.bonds k no_bond).a)) (get_or l.bonds k no_bond).b ≡ 1)
      × (bit_at (slice_index l.joined (l.start + (get_or l.bonds k no_bond).b)) (get_or l.bonds k no_bond).a ≡ 1);
  only : (x y : ℕ) → x < length l.mol.atoms → bit_at (slice_index l.joined (l.start + x)) y ≡ 1
      → IsJoinedBy l.kinds l.bonds l.bond-index x y;
  before : (k : ℕ) → k < l.start → slice_index l.joined k ≡ slice_index l.fn.joined k;
}
