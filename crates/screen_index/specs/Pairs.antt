-- For callers: pairs of an identifier and a version in ascending order, each with its print and a value.
use Rattle.std.specs.Prelude.{◌≢◌, ◌==◌, ◌&&◌, ◌+◌, ◌*◌, ◌/◌, ◌%◌, ◌<◌, ◌≤◌, All, AllPairs, Bool, Contains, length, List, [], ◌∷◌, map, None, Option, Some, if◌then◌else◌, nat_lt, not, true, ℕ}
use Rattle.std.specs.List.{flat_map}
use Rattle.chem_core.specs.Bits.{HasBit}
use Rattle.screen_index.specs.declared.entry.Screened.{Screened}

-- the order of places, by identifier and then by version, as that of numbers
abbrev pub rank : ℕ → ℕ → ℕ
rank id version = id * 4294967296 + version

-- places in ascending order
abbrev pub Rises : List (ℕ × ℕ) → Type 0
Rises ps = AllPairs (λ p q. rank p.0 p.1 ≤ rank q.0 q.1) ps

-- a print has each bit of another
abbrev pub Holds : List Bool → List Bool → Type 0
Holds print need = (bit : ℕ) → HasBit need bit → HasBit print bit

-- rows of 64 columns note a print in a column: it is in the row of each bit
abbrev pub Notes : List Bool → List Bool → ℕ → Type 0
Notes rows print column = (bit : ℕ) → HasBit print bit → HasBit rows (64 * bit + column)

module _ {V : Type 0} where
  abbrev pub rank_of : Screened V → ℕ
  rank_of x = rank x.id x.version

  -- strictly, from a rank on
  abbrev pub Ascend : ℕ → List (Screened V) → Type 0
  Ascend r [] = Unit {0}
  Ascend r (x ∷ xs) = (r ≤ rank_of x) × Ascend (rank_of x + 1) xs

  -- no pair is at a place
  abbrev pub Lacks : ℕ → List (Screened V) → Type 0
  Lacks r xs = All (λ x. rank_of x ≢ r) xs

  -- a pair of which no later version is known
  abbrev pub new_pair : ℕ → ℕ → List Bool → V → Screened V
  new_pair id version print value = record
      { id = id; version = version; until = 4294967295; value = value; print = print }

  -- a pair inserted before the first that comes after it
  abbrev pub put_in : Screened V → List (Screened V) → List (Screened V)
  put_in x [] = x ∷ []
  put_in x (y ∷ ys) = if nat_lt (rank_of x) (rank_of y) then x ∷ y ∷ ys else y ∷ put_in x ys

  -- the pair at a place is its identifier's latest before a version
  abbrev pub ends_at : ℕ → ℕ → Screened V → Screened V
  ends_at r until x = if rank_of x == r then record x { until = until } else x

  abbrev pub superseded : ℕ → ℕ → List (Screened V) → List (Screened V)
  superseded r until xs = map (ends_at r until) xs

  -- it is at none of these places
  abbrev pub is_apart : List (ℕ × ℕ) → Screened V → Bool
  is_apart [] x = true
  is_apart (p ∷ ps) x = not (rank_of x == rank p.0 p.1) && is_apart ps x

  -- it is at or after a place, and its print holds the wanted bits
  abbrev pub IsWanted : List Bool → ℕ → Screened V → Type 0
  IsWanted want from x = (from ≤ rank_of x) × Holds x.print want

  -- the least wanted pair; `None` if no pair is wanted
  abbrev pub IsNext : List Bool → ℕ → List (Screened V) → Option (Screened V) → Type 0
  IsNext want from xs None = All (λ x. ¬ IsWanted want from x) xs
  IsNext want from xs (Some x) = Contains xs x × IsWanted want from x
      × ((y : Screened V) → Contains xs y → IsWanted want from y → rank_of x ≤ rank_of y)

  -- a print that holds the print of each
  abbrev pub AreCovered : List Bool → List (Screened V) → Type 0
  AreCovered print xs = All (λ x. Holds print x.print) xs

  -- the column in which a pair is noted: consecutive numbers are spread over the columns
  abbrev pub column_of : Screened V → ℕ
  column_of x = (x.id * 2654435769 + x.version * 374761393) / 67108864 % 64

  -- rows that note the print of each
  abbrev pub AreNoted : List Bool → List (Screened V) → Type 0
  AreNoted rows xs = All (λ x. Notes rows x.print (column_of x)) xs

  -- true if the last pair is before a place, or if there is no pair
  abbrev pub ends_before : ℕ → List (Screened V) → Bool
  ends_before r [] = true
  ends_before r (x ∷ []) = nat_lt (rank_of x) r
  ends_before r (x ∷ y ∷ ys) = ends_before r (y ∷ ys)

  -- the pairs of blocks, one block after another
  abbrev pub joined : List (List (Screened V)) → List (Screened V)
  joined blocks = flat_map (λ b. b) blocks

  -- blocks with pairs, all of them in ascending order
  abbrev pub AreBlocks : List (List (Screened V)) → Type 0
  AreBlocks blocks = Ascend 0 (joined blocks) × All (λ b. 0 < length b) blocks

-- the view of an index: its pairs, and the print and the value that memory was taken for
pub record IndexTerm (V : Type 0) : Type 0 where
  pub entries : List (Screened V)
  pub reserved : Option (List Bool × V)
