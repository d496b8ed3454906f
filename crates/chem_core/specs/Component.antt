-- Components: the atoms to which walks along bonds lead. For callers.
use Rattle.std.specs.Prelude.{◌≡◌, ℕ, ◌<◌, ◌≤◌, List, [], ◌∷◌, length, slice_index}
use Rattle.chem_core.specs.Graph.{Ends, Joined}

-- a walk from x along these atoms to y, the last: each is joined to the one before; without atoms, x is y
abbrev pub IsWalk : Ends → ℕ → List ℕ → ℕ → Type 0
IsWalk ends x [] y = x ≡ y
IsWalk ends x (z ∷ atoms) y = Joined ends x z × IsWalk ends z atoms y

-- a walk leads from x to y: they are in one component
abbrev pub Reaches : Ends → ℕ → ℕ → Type 0
Reaches ends x y = (atoms : List ℕ) × IsWalk ends x atoms y

-- the least atom to which a walk leads from the atom, itself included
abbrev pub IsComponent : Ends → ℕ → ℕ → Type 0
IsComponent ends a least = Reaches ends a least × ((b : ℕ) → Reaches ends a b → least ≤ b)

-- the least atom of the component of each atom
pub record AreComponents (atoms : ℕ) (ends : Ends) (numbers : List ℕ) : Type 0 where
  pub one_each : length numbers ≡ atoms
  pub each : (a : ℕ) → a < atoms → IsComponent ends a (slice_index numbers a)
