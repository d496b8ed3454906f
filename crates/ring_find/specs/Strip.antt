-- Atoms at which one bond alone is kept, or one beside another. For private clauses alone.
use Rattle.std.specs.Prelude.{◌≡◌, ◌==◌, ◌&&◌, not, ℕ, Bool, true, false, List, slice_index_or, Contains}
use Rattle.chem_core.specs.Graph.{Ends, JoinsAt}
use Rattle.chem_core.specs.declared.adjacency.Step.{Step}

-- the step is by a bond that counts, and no step by another bond is
abbrev pub IsOnly : List Step → (ℕ → Bool) → Step → Type 0
IsOnly steps counts s =
    Contains steps s × (counts s.bond ≡ true) × ((t : Step) → Contains steps t → counts t.bond ≡ true
    → t.bond ≡ s.bond)

abbrev pub is_kept : List Bool → ℕ → Bool
is_kept kept b = slice_index_or kept b false

-- the step is by a kept bond, and no step by another bond is
abbrev pub IsOnlyKept : List Step → List Bool → Step → Type 0
IsOnlyKept steps kept = IsOnly steps (is_kept kept)

-- the bond is kept, and is not this one
abbrev pub is_beside : List Bool → ℕ → ℕ → Bool
is_beside kept bond b = not (b == bond) && is_kept kept b

-- of the steps by other bonds than this one, the step alone is by a kept bond
abbrev pub IsOnlyBeside : List Step → List Bool → ℕ → Step → Type 0
IsOnlyBeside steps kept bond = IsOnly steps (is_beside kept bond)

-- an atom at which one bond alone is kept
abbrev pub IsDeadEnd : Ends → List Bool → ℕ → Type 0
IsDeadEnd ends kept v =
    (c u : ℕ) × JoinsAt ends c v u × (slice_index_or kept c false ≡ true) × ((d w : ℕ) → JoinsAt ends d v w
    → slice_index_or kept d false ≡ true → d ≡ c)
