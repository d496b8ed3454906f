use Rattle.std.proofs.Common.{◌≡◌, ◌<◌, ◌*◌, ◌+◌, ◌-◌, ◌++◌, ◌∷◌, [], ℕ, get_or, length, take}
use Rattle.exact_find.specs.Pairs.{Extends}
use Rattle.exact_find.proofs.Walks.{IsWalked}
use Rattle.exact_find.proofs.walk.+walk.Given as goal

-- the pairs that are still to come
abbrev pub decreases-pair_neighbours : goal.decreases-pair_neighbours
decreases-pair_neighbours l = 3 * (length l.pairs.now - l.count) + 1

abbrev pub decreases-pair_beside : goal.decreases-pair_beside
decreases-pair_beside l = 3 * (length l.pairs.now - l.count) + 3

abbrev pub decreases-pair : goal.decreases-pair
decreases-pair l = 3 * (length l.pairs.now - l.count) + 2

-- no neighbour so far can be the partner
abbrev pub invariant-pair_beside-loop-b : goal.invariant-pair_beside-loop-b
invariant-pair_beside-loop-b l = record {
  kept : take l.count l.pairs ≡ take l.count l.initial.pairs;
  none : (k : ℕ) → k < l.b-index → Extends l.left l.right
      (take l.count l.initial.pairs ++ (l.a, (get_or l.neighbours k (0, 0)).0) ∷ []) → ⊥;
}

abbrev pub invariant-pair_neighbours-loop-neighbour : goal.invariant-pair_neighbours-loop-neighbour
invariant-pair_neighbours-loop-neighbour l =
    IsWalked l.left l.right l.a l.b l.neighbours l.count l.initial.pairs l.neighbour-index l.more l.pairs
