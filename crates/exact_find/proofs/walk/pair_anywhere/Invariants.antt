use Rattle.std.proofs.Common.{◌≡◌, ◌<◌, ◌++◌, ◌∷◌, [], ℕ, take}
use Rattle.exact_find.specs.Pairs.{Extends}
use Rattle.exact_find.proofs.walk.pair_anywhere.Given as goal

-- no atom so far can be the partner
abbrev pub invariant-loop-b : goal.invariant-loop-b
invariant-loop-b l = record {
  kept : take l.count l.pairs ≡ take l.count l.initial.pairs;
  none : (k : ℕ) → k < l.b → Extends l.left l.right (take l.count l.initial.pairs ++ (l.a, k) ∷ []) → ⊥;
}
