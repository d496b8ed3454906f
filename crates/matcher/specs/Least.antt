-- The least of a pattern's embeddings.
use Rattle.std.specs.Prelude.{◌≡◌, ℕ, ◌<◌, List, length, slice_index, take}
use Rattle.chem_core.specs.Molecule.{Molecule}
use Rattle.smarts_parse.specs.Embedding.{IsEmbedding, PartsHold}
use Rattle.smarts_parse.specs.Pattern.{PatternTerm}

-- at the first place where the lists differ, the first has the lower number
abbrev pub Precedes : List ℕ → List ℕ → Type 0
Precedes xs ys = (k : ℕ) × (k < length xs) × (take k xs ≡ take k ys) × (slice_index xs k < slice_index ys k)

-- an embedding of the pattern, which no other precedes
pub record IsLeast (p : PatternTerm) (m : Molecule) (image : List ℕ) : Type 0 where
  pub embeds : IsEmbedding (PartsHold p.recs m (length p.recs)) p.top m image
  pub least : (other : List ℕ) → IsEmbedding (PartsHold p.recs m (length p.recs)) p.top m other → ¬ Precedes other image
