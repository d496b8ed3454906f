-- For private clauses alone: a search along a route, in a molecule of at most 64 atoms.
use Rattle.std.specs.Prelude.{◌≡◌, ◌≢◌, ℕ, ◌+◌, ◌*◌, ◌<◌, ◌≤◌, List, length, slice_get, slice_index, Some}
use Rattle.std.specs.Int.{bit_at}
use Rattle.chem_core.specs.declared.mol.Bond.{Bond}
use Rattle.chem_core.specs.Graph.{JoinsAt}
use Rattle.chem_core.specs.Molecule.{Molecule, ends_of}
use Rattle.chem_core.specs.Sorts.{kind_number}
use Rattle.smarts_parse.specs.Pattern.{graph_of}
use Rattle.matcher.specs.declared.follow.Search.{Search}
use Rattle.matcher.specs.declared.route.Stop.{Stop}
use Rattle.matcher.specs.declared.task.Task.{Task}
use Rattle.matcher.specs.Candidates.{AreCandidates}
use Rattle.matcher.specs.Route.{IsRoute, stop_at}
use Rattle.matcher.specs.Task.{Embeds, IsReadyTask}

-- the bond is of one of the kinds
abbrev pub IsOfKinds : Molecule → ℕ → ℕ → Type 0
IsOfKinds m kinds b = (x : Bond) → slice_get m.bonds b ≡ Some x → bit_at kinds (kind_number x.kind) ≡ 1

-- the words from a place on have for each atom the atoms to which bonds of the kinds join it, and no others
pub record AreJoinedBy (m : Molecule) (kinds : ℕ) (joined : List ℕ) (from : ℕ) : Type 0 where
  pub all : (b x y : ℕ) → x < 64 → JoinsAt (ends_of m) b x y → IsOfKinds m kinds b
      → bit_at (slice_index joined (from + x)) y ≡ 1
  pub only : (x y : ℕ) → x < length m.atoms → bit_at (slice_index joined (from + x)) y ≡ 1
      → (b : ℕ) × JoinsAt (ends_of m) b x y × IsOfKinds m kinds b

-- the words have this for each set of kinds
abbrev pub AreJoined : Molecule → List ℕ → List ℕ → Type 0
AreJoined m kinds joined = (set : ℕ) → set < length kinds
    → AreJoinedBy m (slice_index kinds set) joined (64 * set)

-- the search is for a graph along a route of it, in a molecule of at most 64 atoms
pub record IsSearch (s : Search) : Type 0 where
  pub ready : IsReadyTask s.task.now
  pub few : length s.task.now.mol.now.atoms ≤ 64
  pub words : length s.candidates.now ≡ 4096
  pub candidates : AreCandidates s.task.now s.candidates.now
  pub room : length s.joined.now ≡ 256
  pub sets : length s.kinds.now ≤ 4
  pub joined : AreJoined s.task.now.mol.now s.kinds.now s.joined.now
  pub route : IsRoute (graph_of s.task.now.graph.now) s.stops.now s.joins.now s.kinds.now

-- the word has the atoms at which none of the first k stops stands
abbrev pub IsFree : Molecule → ℕ → List ℕ → ℕ → Type 0
IsFree m k atoms free = (a : ℕ) → a < length m.atoms → ((i : ℕ) → i < k → slice_index atoms i ≢ a)
    → bit_at free a ≡ 1

-- an embedding that has the places of the first k stops at these atoms
pub record Agrees (task : Task) (stops : List Stop) (k : ℕ) (atoms whole : List ℕ) : Type 0 where
  pub embeds : Embeds task whole
  pub agrees : (i : ℕ) → i < k → slice_index whole (stop_at stops i).place ≡ slice_index atoms i

-- the word has the atom of stop k in each such embedding
abbrev pub HasNext : Task → List Stop → ℕ → List ℕ → ℕ → Type 0
HasNext task stops k atoms word = (whole : List ℕ) → Agrees task stops k atoms whole
    → bit_at word (slice_index whole (stop_at stops k).place) ≡ 1

-- each embedding is such for some k, at most `at`, and has stop k at an atom that is left to be tried
abbrev pub AllRemain : Task → List Stop → ℕ → List ℕ → List ℕ → Type 0
AllRemain task stops at atoms left = (whole : List ℕ) → Embeds task whole → (k : ℕ) × (k ≤ at)
    × Agrees task stops k atoms whole
    × (bit_at (slice_index left k) (slice_index whole (stop_at stops k).place) ≡ 1)

-- the first n places of an image are at candidates, all different
pub record ArePlaced (task : Task) (words image : List ℕ) (n : ℕ) : Type 0 where
  pub within : (q : ℕ) → q < n → slice_index image q < length task.mol.now.atoms
  pub held : (q : ℕ) → q < n → bit_at (slice_index words q) (slice_index image q) ≡ 1
  pub distinct : (p q : ℕ) → p < q → q < n → slice_index image p ≢ slice_index image q
