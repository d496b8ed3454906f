-- Ring facts as lists: a truth value for each bond, and the smallest ring of each atom. For callers.
use Rattle.std.specs.Prelude.{◌≡◌, ◌<◌, ◌↔◌, ℕ, Bool, true, false, List, length, slice_index, slice_index_or}
use Rattle.chem_core.specs.Graph.{Ends, IsRingBond, IsSmallestRing}

-- a truth value for each bond: it is a ring bond
pub record AreRingBonds (ends : Ends) (flags : List Bool) : Type 0 where
  pub one_each : length flags ≡ length ends
  pub each : (b : ℕ) → b < length ends → (slice_index_or flags b false ≡ true) ↔ IsRingBond ends b

-- a number for each atom: the length of its smallest ring
pub record AreSmallestRings (atoms : ℕ) (ends : Ends) (lengths : List ℕ) : Type 0 where
  pub one_each : length lengths ≡ atoms
  pub each : (a : ℕ) → a < atoms → IsSmallestRing ends a (slice_index lengths a)
