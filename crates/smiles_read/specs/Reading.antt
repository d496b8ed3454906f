-- The sketch of a text, and the order of its faults. For callers.
use Rattle.std.specs.Prelude.{◌⊎◌, ℕ, ◌<◌, ◌≤◌, List, length, Result, Ok, Err}
use Rattle.chem_core.specs.declared.limits.TheConstants.{MOST_ATOMS, MOST_BONDS, MOST_NEIGHBOURS}
use Rattle.chem_core.specs.Sketch.{SketchTerm}
use Rattle.chem_core.specs.Graph.{degree}
use Rattle.chem_core.specs.Sound.{sketch_ends}
use Rattle.line_walk.specs.Tree.{depth_of}
use Rattle.smiles_read.specs.declared.limits.TheConstants.{MOST_BYTES, MOST_BRANCHES}
use Rattle.smiles_read.specs.declared.fault.SmilesFault.{SmilesFault}
use Rattle.smiles_read.specs.declared.fault.SmilesFault.TheVariants.{Syntax, Ring, Limit, Aromatic, NoMemory}
use Rattle.smiles_words.specs.Words.{Tree, IsTreeOf}
use Rattle.smiles_read.specs.Sketch.{IsSketchOf}

-- the branches open at once, the atoms, the bonds, and the neighbours of each atom
pub record IsWithinLimits (tree : Tree) (s : SketchTerm) : Type 0 where
  pub depth : depth_of tree.tail ≤ MOST_BRANCHES
  pub atoms : length s.atoms ≤ MOST_ATOMS
  pub bonds : length s.bonds ≤ MOST_BONDS
  pub neighbours : (a : ℕ) → degree (sketch_ends s) a ≤ MOST_NEIGHBOURS

-- The answer to a text: the sketch of its tree, or the first fault. Want of memory may come at any text.
abbrev pub IsReading : List ℕ → Result SketchTerm SmilesFault → Type 0
IsReading text (Ok s) =
    (length text ≤ MOST_BYTES) × (tree : Tree) × IsTreeOf text tree × IsSketchOf tree s × IsWithinLimits tree s
IsReading text (Err Syntax) = (length text ≤ MOST_BYTES) × ((tree : Tree) → IsTreeOf text tree → ⊥)
IsReading text (Err Ring) =
    (length text ≤ MOST_BYTES) × (tree : Tree) × IsTreeOf text tree × ((s : SketchTerm) → IsSketchOf tree s → ⊥)
IsReading text (Err Limit) = (MOST_BYTES < length text)
    ⊎ ((tree : Tree) × (s : SketchTerm) × IsTreeOf text tree × IsSketchOf tree s × ¬ IsWithinLimits tree s)
IsReading text (Err (Aromatic place)) = ⊥
IsReading text (Err NoMemory) = Unit {0}
