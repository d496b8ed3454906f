use Rattle.std.proofs.Common.{◌≡◌, ◌<◌, ◌*◌, ◌+◌, ◌-◌, ◌++◌, ◌∷◌, [], ℕ, get_or, length, take}
use Rattle.smarts_mean.specs.Table.{HoldsIn}
use Rattle.smarts_parse.specs.Pattern.{graph_of}
use Rattle.matcher.specs.Partial.{CanComplete}
use Rattle.matcher.proofs.search.+search.Given as goal

-- the atoms that are still to be placed
abbrev pub decreases-extend : goal.decreases-extend
decreases-extend l = 3 * (length l.task.now.graph.now.atoms.items - l.placed) + 2

abbrev pub decreases-extend_anywhere : goal.decreases-extend_anywhere
decreases-extend_anywhere l = 3 * (length l.task.now.graph.now.atoms.items - l.placed) + 1

abbrev pub decreases-extend_near : goal.decreases-extend_near
decreases-extend_near l = 3 * (length l.task.now.graph.now.atoms.items - l.placed) + 1

abbrev pub decreases-extend_at : goal.decreases-extend_at
decreases-extend_at l = 3 * (length l.task.now.graph.now.atoms.items - l.placed)

-- at no atom so far can the next one stand
abbrev pub invariant-extend_anywhere-loop-atom : goal.invariant-extend_anywhere-loop-atom
invariant-extend_anywhere-loop-atom l = record {
  kept : take l.placed l.image ≡ take l.placed l.initial.image;
  none : (a : ℕ) → a < l.atom → CanComplete (HoldsIn l.task.table.now) (graph_of l.task.graph.now) l.task.mol.now
      (take l.placed l.initial.image ++ a ∷ []) → ⊥;
}

-- at no neighbour so far can it stand
abbrev pub invariant-extend_near-loop-atom : goal.invariant-extend_near-loop-atom
invariant-extend_near-loop-atom l = record {
  kept : take l.placed l.image ≡ take l.placed l.initial.image;
  none : (k : ℕ) → k < l.atom-index → CanComplete (HoldsIn l.task.table.now) (graph_of l.task.graph.now) l.task.mol.now
      (take l.placed l.initial.image ++ (get_or l.neighbours k (0, 0)).0 ∷ []) → ⊥;
}
