-- Labels of atoms, and the bonds that lead from one label to another. For private clauses alone.
use Rattle.std.specs.Prelude.{◌≡◌, ℕ, ◌<◌, Bool, true, false, List, slice_index, slice_index_or}
use Rattle.chem_core.specs.Graph.{Ends, JoinsAt}

-- the bond joins an atom of label m to one of a lower label
abbrev pub LeadsDown : Ends → List ℕ → ℕ → ℕ → Type 0
LeadsDown ends labels b m = (x y : ℕ) × JoinsAt ends b x y × (slice_index labels x < slice_index labels y)
    × (slice_index labels y ≡ m)

-- from each label at most one bond leads to a lower one
abbrev pub AreForest : Ends → List ℕ → Type 0
AreForest ends labels = (b c m : ℕ) → LeadsDown ends labels b m → LeadsDown ends labels c m → b ≡ c

-- as `AreForest`, of the bonds below place k; the labels from which one of them leads down are taken
pub record AreTaken (ends : Ends) (labels : List ℕ) (taken : List Bool) (k : ℕ) : Type 0 where
  pub each : (b m : ℕ) → b < k → LeadsDown ends labels b m → slice_index_or taken m false ≡ true
  pub once : (b c m : ℕ) → b < k → c < k → LeadsDown ends labels b m → LeadsDown ends labels c m → b ≡ c
