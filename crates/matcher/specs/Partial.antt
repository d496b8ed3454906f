-- For private clauses alone: the invariant while the atoms of a graph are placed in turn.
use Rattle.std.specs.Prelude.{◌≡◌, ◌≢◌, ℕ, ◌<◌, ◌≤◌, List, ◌++◌, length, max, slice_get, slice_index, Some, All, AllPairs}
use Rattle.chem_core.specs.Graph.{JoinsAt}
use Rattle.chem_core.specs.Molecule.{Molecule}
use Rattle.smarts_parse.specs.declared.pattern.AtomPrim.{AtomPrim}
use Rattle.smarts_parse.specs.Pattern.{Term, GraphTerm}
use Rattle.smarts_parse.specs.Sound.{NamesBelow, pattern_ends}
use Rattle.smarts_parse.specs.Truth.{AtomTrue}
use Rattle.smarts_parse.specs.Embedding.{AreGrouped, BondEmbeds, IsEmbedding}
use Rattle.matcher.specs.Least.{Precedes}

-- the parts that hold: number, atom
abbrev pub Parts : Type 1
Parts = ℕ → ℕ → Type 0

-- the invariant of a graph that is searched for
pub record IsSearchable (g : GraphTerm) : Type 0 where
  pub few : length g.atoms ≤ 256
  pub ends : All (λ e. (e.0 < length g.atoms) × (e.1 < length g.atoms)) (pattern_ends g)
  pub apart : All (λ e. e.0 ≢ e.1) (pattern_ends g)
  pub once : (b c x y : ℕ) → JoinsAt (pattern_ends g) b x y → JoinsAt (pattern_ends g) c x y → b ≡ c
  pub names : All (NamesBelow 64) g.atoms
  pub groups : length g.groups ≡ length g.atoms

-- an embedding of the graph's first atoms, of the bonds between these, and of their groups
pub record IsPartial (parts : Parts) (g : GraphTerm) (m : Molecule) (image : List ℕ) : Type 0 where
  pub few : length image ≤ length g.atoms
  pub in_range : All (λ a. a < length m.atoms) image
  pub distinct : AllPairs ◌≢◌ image
  pub atoms : (k : ℕ) (e : Term AtomPrim) → k < length image → slice_get g.atoms k ≡ Some e
      → AtomTrue parts e m (slice_index image k)
  pub bonds : All (λ bond. max bond.a bond.b < length image → BondEmbeds m image bond) g.bonds
  pub groups : AreGrouped g.groups m image

-- an embedding begins so
abbrev pub CanComplete : Parts → GraphTerm → Molecule → List ℕ → Type 0
CanComplete parts g m front = (rest : List ℕ) × IsEmbedding parts g m (front ++ rest)

-- the least of the embeddings that begin so
pub record IsLeastFrom (parts : Parts) (g : GraphTerm) (m : Molecule) (front whole : List ℕ) : Type 0 where
  pub embeds : IsEmbedding parts g m whole
  pub begins : (rest : List ℕ) × (whole ≡ front ++ rest)
  pub least : (rest : List ℕ) → IsEmbedding parts g m (front ++ rest) → ¬ Precedes (front ++ rest) whole
