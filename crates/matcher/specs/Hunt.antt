-- For private clauses alone: embeddings with some places taken. A place is taken if the image has an atom of the
-- molecule.
use Rattle.std.specs.Prelude.{◌≡◌, ℕ, ◌<◌, ◌≤◌, List, Contains, length, slice_index, slice_index_or, take}
use Rattle.std.specs.Int.{bit_at}
use Rattle.chem_core.specs.Graph.{JoinsAt}
use Rattle.chem_core.specs.Molecule.{ends_of}
use Rattle.smarts_parse.specs.Pattern.{BondTerm, graph_of}
use Rattle.smarts_parse.specs.Truth.{BondTrue}
use Rattle.matcher.specs.declared.task.Task.{Task}
use Rattle.matcher.specs.declared.lay.Placement.{Placement}
use Rattle.matcher.specs.Task.{Embeds}

-- the stop at a place of the list; past its end one at place 0
abbrev pub stop_at : List Placement → ℕ → Placement
stop_at stops k = slice_index_or stops k (record { place = 0; bond = 0; closing = 0 })

-- the place of the stop is one of the graph's, and not taken
pub record IsFree (task : Task) (stops : List Placement) (k : ℕ) (taken : List ℕ) : Type 0 where
  pub place : (stop_at stops k).place < length task.graph.now.atoms.items
  pub free : length task.mol.now.atoms ≤ slice_index taken (stop_at stops k).place

-- an embedding that maps each taken place to the atom there
pub record Continues (task : Task) (taken image : List ℕ) : Type 0 where
  pub embeds : Embeds task image
  pub agrees : (q : ℕ) → q < length image → slice_index taken q < length task.mol.now.atoms
      → slice_index image q ≡ slice_index taken q

-- each such embedding has a bond of the molecule between the place's atom and `from`, at which the bond of the graph is
-- true
abbrev pub Asks : Task → List ℕ → ℕ → ℕ → ℕ → Type 0
Asks task taken place from bond = (d : BondTerm) (image : List ℕ) → Continues task taken image
    → (b : ℕ) × JoinsAt (ends_of task.mol.now) b from (slice_index image place)
    × BondTrue (slice_index_or (graph_of task.graph.now).bonds bond d).expr task.mol.now b

-- the bits of a word are atoms of the molecule to which places are mapped
abbrev pub AreTaken : Task → ℕ → List ℕ → Type 0
AreTaken task used taken = (a : ℕ) → bit_at used a ≡ 1
    → (a < length task.mol.now.atoms) × Contains (take (length task.graph.now.atoms.items) taken) a
