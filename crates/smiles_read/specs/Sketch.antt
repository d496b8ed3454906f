-- The sketch of a tree: its atoms in the order of the text, and the bonds of its graph as the text completes them. A
-- bond of the chain is complete at its second atom, a ring bond at its second number. For callers.
use Rattle.std.specs.Prelude.{◌≡◌, List, map}
use Rattle.std.specs.List.{enumerate_from}
use Rattle.chem_core.specs.declared.sketch.SketchAtom.{SketchAtom}
use Rattle.chem_core.specs.declared.sketch.SketchBond.{SketchBond}
use Rattle.chem_core.specs.declared.sketch.SketchKind.{SketchKind}
use Rattle.chem_core.specs.Sketch.{SketchTerm}
use Rattle.line_walk.specs.declared.pairs.Link.{Link}
use Rattle.line_walk.specs.Partners.{IsGraph}
use Rattle.line_walk.specs.Places.{atoms_of, entries_of}
use Rattle.smiles_words.specs.Words.{smiles_words, agreed_kind, Tree}

-- each atom with its place
abbrev pub numbered : List SketchAtom → List SketchAtom
numbered atoms = map (λ p. record p.1 { written = p.0 }) (enumerate_from 0 atoms)

-- a bond of a sketch, as a bond of a graph
abbrev pub link_of : SketchBond → Link SketchKind
link_of bond = record { a = bond.a; b = bond.b; kind = bond.kind }

-- the sketch of a tree
pub record IsSketchOf (tree : Tree) (s : SketchTerm) : Type 0 where
  pub atoms : s.atoms ≡ numbered (atoms_of smiles_words tree)
  pub bonds : IsGraph agreed_kind (entries_of smiles_words tree) (map link_of s.bonds)
