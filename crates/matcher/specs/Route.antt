-- For private clauses alone: an order of the places of a graph, each with bonds to earlier ones.
use Rattle.std.specs.Prelude.{◌≡◌, ◌≢◌, ℕ, ◌<◌, ◌≤◌, List, length, slice_index, slice_index_or}
use Rattle.chem_core.specs.Graph.{JoinsAt}
use Rattle.smarts_parse.specs.declared.pattern.BondPrim.{BondPrim}
use Rattle.smarts_parse.specs.declared.pattern.BondPrim.TheVariants.{Ring}
use Rattle.smarts_parse.specs.Pattern.{BondTerm, GraphTerm, Term, Prim, Not, And, Or}
use Rattle.smarts_parse.specs.Sound.{pattern_ends}
use Rattle.matcher.specs.declared.route.Join.{Join}
use Rattle.matcher.specs.declared.route.Stop.{Stop}
use Rattle.matcher.specs.Counted.{kinds_of}

abbrev pub no_join : Join
no_join = record { bond = 0; other = 0; set = 0 }

-- the stop and the join at a place of the list; past its end one of zeros
abbrev pub stop_at : List Stop → ℕ → Stop
stop_at stops k = slice_index_or stops k (record { place = 0; first = no_join; from = 0; to = 0 })

abbrev pub join_at : List Join → ℕ → Join
join_at joins n = slice_index_or joins n no_join

-- the bond of the join joins the places of an earlier stop and of stop k, and may be of the kinds of the join's set
pub record IsJoin (g : GraphTerm) (stops : List Stop) (kinds : List ℕ) (k : ℕ) (j : Join) : Type 0 where
  pub earlier : j.other < k
  pub bonded : JoinsAt (pattern_ends g) j.bond (stop_at stops j.other).place (stop_at stops k).place
  pub set : j.set < length kinds
  pub asks : (d : BondTerm) → kinds_of (slice_index_or g.bonds j.bond d).expr ≡ slice_index kinds j.set

-- the stop is at a place of the graph, and its joins are of bonds to earlier stops
pub record IsStop (g : GraphTerm) (stops : List Stop) (joins : List Join) (kinds : List ℕ) (k : ℕ) : Type 0 where
  pub place : (stop_at stops k).place < length g.atoms
  pub first : 0 < k → IsJoin g stops kinds k (stop_at stops k).first
  pub range : (stop_at stops k).from ≤ (stop_at stops k).to
  pub within : (stop_at stops k).to ≤ length joins
  pub others : (n : ℕ) → n < (stop_at stops k).to → (stop_at stops k).from ≤ n
      → IsJoin g stops kinds k (join_at joins n)

-- the stops are such, at different places
pub record IsRoute (g : GraphTerm) (stops : List Stop) (joins : List Join) (kinds : List ℕ) : Type 0 where
  pub each : (k : ℕ) → k < length stops → IsStop g stops joins kinds k
  pub apart : (i k : ℕ) → i < k → k < length stops → (stop_at stops i).place ≢ (stop_at stops k).place

-- the expression asks for kinds of bonds alone
abbrev pub AsksKinds : Term BondPrim → Type 0
AsksKinds (Prim Ring) = ⊥
AsksKinds (Prim p) = Unit {0}
AsksKinds (Not e) = ⊥
AsksKinds (And e f) = AsksKinds e × AsksKinds f
AsksKinds (Or e f) = AsksKinds e × AsksKinds f

-- the bond asks for the kinds of its set and for nothing else
pub record IsSorted (g : GraphTerm) (kinds sets : List ℕ) (n : ℕ) : Type 0 where
  pub within : slice_index sets n < length kinds
  pub same : (d : BondTerm) → kinds_of (slice_index_or g.bonds n d).expr ≡ slice_index kinds (slice_index sets n)
  pub alone : (d : BondTerm) → AsksKinds (slice_index_or g.bonds n d).expr

-- as `IsSorted`, of each bond
abbrev pub AreSorted : GraphTerm → List ℕ → List ℕ → Type 0
AreSorted g kinds sets = (n : ℕ) → n < length g.bonds → IsSorted g kinds sets n

-- no place is in a group
abbrev pub HasNoGroups : GraphTerm → Type 0
HasNoGroups g = (k : ℕ) → slice_index g.groups k ≡ 0
