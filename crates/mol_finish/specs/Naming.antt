-- The naming of components under way: the names that atoms have so far, and the queue of a walk that gives a name.
-- For private clauses alone.
use Rattle.std.specs.Prelude.{◌≡◌, ◌≢◌, ◌⊎◌, ◌≤◌, ◌<◌, ◌+◌, ◌==◌, ℕ, List, length, slice_index, count_by}
use Rattle.chem_core.specs.Graph.{Ends, Joined}
use Rattle.chem_core.specs.Component.{IsComponent}
use Rattle.mol_finish.specs.declared.components.TheConstants.{NONE}

-- the atom has a name
abbrev pub IsNamed : List ℕ → ℕ → Type 0
IsNamed names a = slice_index names a ≢ NONE

-- the atom is in the queue, from the next one on: the walk has not come to its neighbours
abbrev pub IsWaiting : List ℕ → ℕ → ℕ → Type 0
IsWaiting queue next a = (i : ℕ) × (next ≤ i) × (i < length queue) × (slice_index queue i ≡ a)

-- Each name is that of the atom's component. The neighbours of an atom with a name have names too, unless it waits. The
-- queue has no more atoms than have names.
pub record IsNaming (atoms : ℕ) (ends : Ends) (names queue : List ℕ) (next : ℕ) : Type 0 where
  pub one_each : length names ≡ atoms
  pub few : length queue + count_by (λ n. n == NONE) names ≤ atoms
  pub right : (a : ℕ) → a < atoms → IsNamed names a → IsComponent ends a (slice_index names a)
  pub closed : (a b : ℕ) → Joined ends a b → IsNamed names a → IsNamed names b ⊎ IsWaiting queue next a
