-- For private clauses alone: ways through a graph, which each embedding takes to ways through the molecule.
use Rattle.std.specs.Prelude.{◌≡◌, ◌⊎◌, ℕ, suc, ◌+◌, ◌<◌, ◌≤◌, Bool, true, false, List, [], ◌∷◌, length, slice_index, slice_index_or}
use Rattle.chem_core.specs.Graph.{IsRingBond, Joined, JoinsAt}
use Rattle.chem_core.specs.Molecule.{ends_of}
use Rattle.smarts_parse.specs.Pattern.{GraphTerm, graph_of}
use Rattle.smarts_parse.specs.Sound.{pattern_ends}
use Rattle.matcher.specs.declared.task.Task.{Task}
use Rattle.matcher.specs.Task.{Embeds}

-- the bond at place j is marked
abbrev pub IsMarked : List Bool → ℕ → Type 0
IsMarked marks j = slice_index_or marks j false ≡ true

-- the places after the first on a way down to the last: each is lower than the one before, and a bond joins them
abbrev pub IsWay : GraphTerm → ℕ → ℕ → List ℕ → Type 0
IsWay g from to [] = from ≡ to
IsWay g from to (next ∷ places) = (next < from) × Joined (pattern_ends g) from next × IsWay g next to places

-- each embedding takes the bond to a ring bond
abbrev pub IsOnRing : Task → ℕ → Type 0
IsOnRing task j = (image : List ℕ) → Embeds task image → (x y b : ℕ)
    → JoinsAt (pattern_ends (graph_of task.graph.now)) j x y
    → JoinsAt (ends_of task.mol.now) b (slice_index image x) (slice_index image y) → IsRingBond (ends_of task.mol.now) b

-- as `IsOnRing`, of each marked bond
abbrev pub AreOnRings : Task → List Bool → Type 0
AreOnRings task marks = (j : ℕ) → IsMarked marks j → IsOnRing task j

-- as `AreOnRings`, in every search for the graph
abbrev pub AreRingMarks : GraphTerm → List Bool → Type 0
AreRingMarks g marks = (task : Task) → graph_of task.graph.now ≡ g → AreOnRings task marks

-- the bonds that were marked lie on a way down; with `above` it has at least two bonds
pub record IsMarkedWay (g : GraphTerm) (from to above : ℕ) (old new : List Bool) : Type 0 where
  pub places : List ℕ
  pub way : IsWay g from to places
  pub long : 2 ≤ above + length places
  pub marked : (j : ℕ) → IsMarked new j → IsMarked old j ⊎ ((i : ℕ) × (i < length places)
      × JoinsAt (pattern_ends g) j (slice_index (from ∷ places) i) (slice_index (from ∷ places) (suc i)))
