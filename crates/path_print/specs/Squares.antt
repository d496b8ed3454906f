-- The facts that a pattern's expressions imply, computed once, for private clauses alone.
use Rattle.std.specs.Prelude.{◌≡◌, ◌≢◌, ℕ, ◌+◌, ◌*◌, ◌<◌, ◌≤◌, List, length, map, All, Contains, slice_get, slice_index, find, option_map, option_and_then, unwrap_or}
use Rattle.chem_core.specs.Graph.{JoinsAt}
use Rattle.smarts_parse.specs.Pattern.{BondTerm, GraphTerm}
use Rattle.path_print.specs.declared.known.Known.{Known}
use Rattle.path_print.specs.Path.{flag_of}
use Rattle.path_print.specs.Implied.{implied, implied_byte}
use Rattle.path_print.specs.Prints.{are_ends}

-- the facts that each atom of the graph implies
abbrev pub AreKnown : GraphTerm → List Known → Type 0
AreKnown g known = (i : ℕ) → i < length g.atoms → slice_get known i ≡ option_map implied (slice_get g.atoms i)

-- A square of 256 rows and columns: for two atoms the byte of the bond between them, and 0 if no byte is implied.
abbrev pub IsSquare : List BondTerm → List ℕ → Type 0
IsSquare bonds square = (x y : ℕ) → x < 256 → y < 256
    → slice_index square (256 * x + y) ≡ unwrap_or
    (option_and_then (λ bond. implied_byte bond.expr) (find (λ bond. are_ends x y bond.a bond.b) bonds)) 0

-- the ends of the bonds are below n, and no two bonds have the same
pub record IsSimplePattern (n : ℕ) (bonds : List BondTerm) : Type 0 where
  pub in_range : All (λ bond. (bond.a < n) × (bond.b < n)) bonds
  pub once : (b c x y : ℕ) → JoinsAt (map (λ bond. (bond.a, bond.b)) bonds) b x y
      → JoinsAt (map (λ bond. (bond.a, bond.b)) bonds) c x y → b ≡ c

-- a number that steps with the same byte and label share
abbrev pub rank_of : ℕ → Known → ℕ
rank_of byte k = 15 * unwrap_or k.number 255 + 5 * unwrap_or (option_map flag_of k.aromatic) 2 + byte

-- the neighbours of the atom x among `atoms` atoms, each after its rank
pub record AreEnds (atoms : ℕ) (square : List ℕ) (x : ℕ) (ends : List (ℕ × ℕ)) : Type 0 where
  pub within : All (λ end. end.1 < atoms) ends
  pub each : (y : ℕ) → y < atoms → slice_index square (256 * x + y) ≢ 0 → (rank : ℕ) × Contains ends (rank, y)

-- the first `count` numbers of the row of the atom x are its neighbours
pub record IsRow (atoms : ℕ) (square rows : List ℕ) (x count : ℕ) : Type 0 where
  pub short : count ≤ 256
  pub within : (k : ℕ) → k < count → slice_index rows (256 * x + k) < atoms
  pub each : (y : ℕ) → y < atoms → slice_index square (256 * x + y) ≢ 0
      → (k : ℕ) × (k < count) × (slice_index rows (256 * x + k) ≡ y)

-- the neighbours of each atom
abbrev pub AreRows : ℕ → List ℕ → List ℕ → List ℕ → Type 0
AreRows atoms square rows counts = (x : ℕ) → x < atoms → IsRow atoms square rows x (slice_index counts x)

-- a graph, and the facts that its expressions imply
pub record IsSheet (g : GraphTerm) (known : List Known) (square rows counts : List ℕ) : Type 0 where
  pub few : length g.atoms ≤ 256
  pub ends : IsSimplePattern (length g.atoms) g.bonds
  pub room : length known ≡ 256
  pub side : length square ≡ 65536
  pub rows_room : length rows ≡ 65536
  pub counts_room : length counts ≡ 256
  pub atoms : AreKnown g known
  pub bonds : IsSquare g.bonds square
  pub neighbours : AreRows (length g.atoms) square rows counts
