-- The print of a molecule and the need of a pattern, for callers.
use Rattle.std.specs.Prelude.{◌≡◌, ◌↔◌, ℕ, Bool, ◌==◌, ◌&&◌, ◌||◌, List, length, slice_get, find, Some, option_map, option_and_then}
use Rattle.chem_core.specs.declared.mol.Atom.{Atom}
use Rattle.chem_core.specs.declared.mol.BondKind.{BondKind}
use Rattle.chem_core.specs.declared.mol.BondKind.TheVariants as kinds
use Rattle.chem_core.specs.Molecule.{Molecule}
use Rattle.chem_core.specs.Bits.{HasBit}
use Rattle.smarts_parse.specs.Pattern.{GraphTerm, PatternTerm}
use Rattle.path_print.specs.declared.known.Known.{Known}
use Rattle.path_print.specs.Path.{Family, label_of, View, IsPathBit}
use Rattle.path_print.specs.Implied.{implied, implied_byte}

-- the known facts of an atom of a molecule
abbrev pub known_of : Atom → Known
known_of x = record { number = Some x.number; aromatic = Some x.aromatic }

abbrev pub kind_byte : BondKind → ℕ
kind_byte kinds.Single = 1
kind_byte kinds.Aromatic = 1
kind_byte kinds.Double = 2
kind_byte kinds.Triple = 3
kind_byte kinds.Quad = 4

-- the ends a and b are x and y, either way round
abbrev pub are_ends : ℕ → ℕ → ℕ → ℕ → Bool
are_ends x y a b = ((a == x) && (b == y)) || ((a == y) && (b == x))

-- a molecule as its paths see it
abbrev pub molecule_view : Molecule → Family → View
molecule_view m family = record {
  label = λ a. option_and_then (λ x. label_of family (known_of x)) (slice_get m.atoms a);
  byte = λ x y. option_map (λ bond. kind_byte bond.kind) (find (λ bond. are_ends x y bond.a bond.b) m.bonds);
}

-- a pattern's graph as its paths see it: the facts that its expressions imply
abbrev pub graph_view : GraphTerm → Family → View
graph_view g family = record {
  label = λ a. option_and_then (λ e. label_of family (implied e)) (slice_get g.atoms a);
  byte = λ x y. option_and_then (λ bond. implied_byte bond.expr) (find (λ bond. are_ends x y bond.a bond.b) g.bonds);
}

-- a print with exactly the bits of the paths of both families
pub record HasPathBits (views : Family → View) (print : List Bool) : Type 0 where
  pub size : length print ≡ 1024
  pub bits : (bit : ℕ) → HasBit print bit ↔ ((family : Family) × IsPathBit (views family) bit)

-- the print of a molecule
abbrev pub IsPrint : Molecule → List Bool → Type 0
IsPrint m print = HasPathBits (molecule_view m) print

-- the bits that every molecule has in which the pattern embeds
abbrev pub IsNeed : PatternTerm → List Bool → Type 0
IsNeed p print = HasPathBits (graph_view p.top) print
