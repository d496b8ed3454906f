-- A graph within the limits, and its bonds: for private clauses only.
use Rattle.std.specs.Prelude.{◌≤◌, List, length, map}
use Rattle.chem_core.specs.declared.limits.TheConstants.{MOST_ATOMS, MOST_BONDS}
use Rattle.chem_core.specs.declared.sketch.SketchAtom.{SketchAtom}
use Rattle.chem_core.specs.declared.sketch.SketchBond.{SketchBond}
use Rattle.chem_core.specs.declared.sketch.SketchKind.{SketchKind}
use Rattle.chem_core.specs.Graph.{Ends}
use Rattle.line_walk.specs.declared.pairs.Link.{Link}
use Rattle.line_walk.specs.declared.read.Graph.{Graph}
use Rattle.smiles_read.specs.declared.limits.TheConstants.{MOST_BRANCHES}

-- a bond of a graph, as a bond of a sketch
abbrev pub bond_of : Link SketchKind → SketchBond
bond_of link = record { a = link.a; b = link.b; kind = link.kind }

-- the two ends of each bond
abbrev pub link_ends : List (Link SketchKind) → Ends
link_ends links = map (λ x. (x.a, x.b)) links

-- the branches open at once, the atoms and the bonds are within the limits
pub record HasFewParts (graph : Graph SketchAtom SketchKind) : Type 0 where
  pub depth : graph.depth ≤ MOST_BRANCHES
  pub atoms : length graph.atoms.items ≤ MOST_ATOMS
  pub bonds : length graph.links.items ≤ MOST_BONDS
