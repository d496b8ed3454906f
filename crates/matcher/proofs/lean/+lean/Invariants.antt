use Rattle.std.proofs.Common.{◌≡◌, ◌<◌, ◌*◌, ◌+◌, ◌-◌, ◌++◌, ◌∷◌, [], ℕ, get_or, length, take}
use Rattle.std.specs.Int.{bit_at}
use Rattle.smarts_mean.specs.Table.{HoldsIn}
use Rattle.smarts_parse.specs.Pattern.{graph_of}
use Rattle.matcher.specs.Partial.{CanComplete}
use Rattle.matcher.proofs.lean.+lean.Given as goal

-- the atoms that are still to be placed
abbrev pub decreases-place_rest : goal.decreases-place_rest
decreases-place_rest l = 3 * (length l.task.now.graph.now.atoms.items - l.placed) + 2

abbrev pub decreases-place_anywhere : goal.decreases-place_anywhere
decreases-place_anywhere l = 3 * (length l.task.now.graph.now.atoms.items - l.placed) + 1

abbrev pub decreases-place_near : goal.decreases-place_near
decreases-place_near l = 3 * (length l.task.now.graph.now.atoms.items - l.placed) + 1

abbrev pub decreases-place_at : goal.decreases-place_at
decreases-place_at l = 3 * (length l.task.now.graph.now.atoms.items - l.placed)

abbrev pub decreases-place_anywhere-loop-left : goal.decreases-place_anywhere-loop-left
decreases-place_anywhere-loop-left l = l.left

-- the next atom can stand only at atoms that are left, of those that were free
abbrev pub invariant-place_anywhere-loop-left : goal.invariant-place_anywhere-loop-left
invariant-place_anywhere-loop-left l = record {
  kept : take l.placed l.image ≡ take l.placed l.initial.image;
  within : (a : ℕ) → a < 64 → bit_at l.left a ≡ 1 → bit_at l.initial.left a ≡ 1;
  only : (a : ℕ) → a < 64 → CanComplete (HoldsIn l.task.table.now) (graph_of l.task.graph.now) l.task.mol.now
      (take l.placed l.initial.image ++ a ∷ []) → bit_at l.left a ≡ 1;
}

-- at no neighbour so far can it stand
abbrev pub invariant-place_near-loop-atom : goal.invariant-place_near-loop-atom
invariant-place_near-loop-atom l = record {
  kept : take l.placed l.image ≡ take l.placed l.initial.image;
  none : (k : ℕ) → k < l.atom-index → CanComplete (HoldsIn l.task.table.now) (graph_of l.task.graph.now) l.task.mol.now
      (take l.placed l.initial.image ++ (get_or l.neighbours k (0, 0)).0 ∷ []) → ⊥;
}
