use Rattle.std.proofs.Common.{◌≡◌, ℕ, ◌<◌, get_or}
use Rattle.matcher.proofs.fit.bond_between.Given as goal

-- no neighbour so far is the atom
abbrev pub invariant-loop-neighbour : goal.invariant-loop-neighbour
invariant-loop-neighbour l = (k : ℕ) (d : ℕ × ℕ) → k < l.neighbour-index → (get_or l.neighbours k d).0 ≡ l.to → ⊥
