-- The steps from an atom to its neighbours. For callers that walk.
use Rattle.std.specs.Prelude.{◌≡◌, ◌≢◌, ◌==◌, ◌<◌, ℕ, List, [], Option, None, Some, length, slice_index_or, Contains, AllPairs, filter_map, if◌then◌else◌}
use Rattle.std.specs.List.{enumerate_from}
use Rattle.chem_core.specs.Graph.{Ends, JoinsAt, IsSimpleGraph}
use Rattle.chem_core.specs.declared.adjacency.Step.{Step}

-- atoms, and the ends of each bond
pub record Network : Type 0 where
  pub atoms : ℕ
  pub ends : Ends

-- the step that a bond, with its place, makes from the atom, if it ends there
abbrev pub step_at : ℕ → ℕ × (ℕ × ℕ) → Option Step
step_at a p = if p.1.0 == a then Some (record { to = p.1.1; bond = p.0 })
    else if p.1.1 == a then Some (record { to = p.1.0; bond = p.0 })
    else None

-- the steps from the atom, in the order of the bonds
abbrev pub steps_among : Ends → ℕ → List Step
steps_among ends a = filter_map (step_at a) (enumerate_from 0 ends)

-- the steps from an atom: each bond that ends there, once
pub record AreStepsFrom (ends : Ends) (atom : ℕ) (steps : List Step) : Type 0 where
  pub joins : (s : Step) → Contains steps s → JoinsAt ends s.bond atom s.to
  pub once : AllPairs (λ s t. s.bond ≢ t.bond) steps
  pub each : (b y : ℕ) → JoinsAt ends b atom y → Contains steps (record { to = y; bond = b })

-- the invariant of an adjacency's fields
pub record IsAdjacentInside (ends : Ends) (lists : List (List Step)) : Type 0 where
  pub graph : IsSimpleGraph (length lists) ends
  pub each : (a : ℕ) → a < length lists → slice_index_or lists a [] ≡ steps_among ends a
