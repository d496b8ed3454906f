-- The smallest ring through each bond, and kept bonds, with each ring bond among them. For private clauses alone.
use Rattle.std.specs.Prelude.{◌≡◌, ◌≤◌, ◌<◌, ◌⊎◌, ℕ, Bool, true, false, List, length, slice_index, slice_index_or}
use Rattle.chem_core.specs.Graph.{Ends, IsSimpleCycle, LiesOn, IsRingBond}

-- n is the least length of a simple cycle through the bond, and 0 without one
abbrev pub IsSmallestThrough : Ends → ℕ → ℕ → Type 0
IsSmallestThrough ends b n = ((n ≡ 0) × ((atoms : List ℕ) → IsSimpleCycle ends atoms → LiesOn ends b atoms → ⊥))
    ⊎ ((atoms : List ℕ) × IsSimpleCycle ends atoms × LiesOn ends b atoms × (length atoms ≡ n)
    × ((others : List ℕ) → IsSimpleCycle ends others → LiesOn ends b others → n ≤ length others))

-- a number for each bond: the length of the smallest ring through it
pub record AreBondRings (ends : Ends) (lengths : List ℕ) : Type 0 where
  pub one_each : length lengths ≡ length ends
  pub each : (b : ℕ) → b < length ends → IsSmallestThrough ends b (slice_index lengths b)

-- a truth value for each bond: it is kept, and each ring bond is
pub record KeepsRings (ends : Ends) (kept : List Bool) : Type 0 where
  pub one_each : length kept ≡ length ends
  pub each : (b : ℕ) → IsRingBond ends b → slice_index_or kept b false ≡ true
