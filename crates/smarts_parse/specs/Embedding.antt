-- The embeddings of a pattern in a molecule. No order of search is in it.
use Rattle.std.specs.Prelude.{◌≡◌, ◌≢◌, ◌↔◌, ℕ, zero, suc, ◌<◌, ◌==◌, List, length, slice_get, slice_index, Some, All, AllPairs, MatchBool}
use Rattle.chem_core.specs.Graph.{JoinsAt}
use Rattle.chem_core.specs.Molecule.{Molecule, ends_of}
use Rattle.chem_core.specs.Component.{Reaches}
use Rattle.smarts_parse.specs.declared.pattern.AtomPrim.{AtomPrim}
use Rattle.smarts_parse.specs.Pattern.{Term, BondTerm, GraphTerm, PatternTerm}
use Rattle.smarts_parse.specs.Truth.{AtomTrue, BondTrue}

-- the molecule has a bond between the images of the ends, and the expression is true at it
abbrev pub BondEmbeds : Molecule → List ℕ → BondTerm → Type 0
BondEmbeds m image bond = (b : ℕ) × JoinsAt (ends_of m) b (slice_index image bond.a) (slice_index image bond.b)
    × BondTrue bond.expr m b

-- Of the atoms in groups two are in one group exactly if their images are in one component. 0 is no group.
abbrev pub AreGrouped : List ℕ → Molecule → List ℕ → Type 0
AreGrouped groups m image = (i j : ℕ) → i < length image → j < length image → slice_index groups i ≢ 0
    → slice_index groups j ≢ 0
    → (slice_index groups i ≡ slice_index groups j) ↔ Reaches (ends_of m) (slice_index image i) (slice_index image j)

-- An embedding: distinct atoms of the molecule, one for each atom of the pattern, at which its expression is true. Each
-- bond of the pattern has a bond of the molecule between its two images. Each group is in one component, and different
-- groups in different ones. The molecule may have more bonds between the atoms.
pub record IsEmbedding (parts : ℕ → ℕ → Type 0) (g : GraphTerm) (m : Molecule) (image : List ℕ) : Type 0 where
  pub one_each : length image ≡ length g.atoms
  pub in_range : All (λ a. a < length m.atoms) image
  pub distinct : AllPairs ◌≢◌ image
  pub atoms : (k : ℕ) (e : Term AtomPrim) → slice_get g.atoms k ≡ Some e → AtomTrue parts e m (slice_index image k)
  pub bonds : All (BondEmbeds m image) g.bonds
  pub groups : AreGrouped g.groups m image

-- The recursive parts of numbers below n: part k holds at a if it has an embedding with a as its first atom.
abbrev pub PartsHold : List GraphTerm → Molecule → ℕ → ℕ → ℕ → Type 0
PartsHold recs m zero k a = ⊥
PartsHold recs m (suc n) k a =
    MatchBool (k == n)
    ((g : GraphTerm) × (slice_get recs n ≡ Some g) × (image : List ℕ) × IsEmbedding (PartsHold recs m n) g m image
    × (slice_get image 0 ≡ Some a))
    (PartsHold recs m n k a)

-- the pattern has an embedding in the molecule
abbrev pub Matches : PatternTerm → Molecule → Type 0
Matches p m = (image : List ℕ) × IsEmbedding (PartsHold p.recs m (length p.recs)) p.top m image
