-- A molecule: atoms and bonds as they are meant. For callers.
use Rattle.std.specs.Prelude.{◌≤◌, List, length, map, All, pos, neg_ℤ, ◌≤ℤ◌}
use Rattle.chem_core.specs.declared.mol.Atom.{Atom}
use Rattle.chem_core.specs.declared.mol.Bond.{Bond}
use Rattle.chem_core.specs.Graph.{Ends, IsSimpleGraph}

pub record Molecule : Type 0 where
  pub atoms : List Atom
  pub bonds : List Bond

-- the two ends of each bond of a list
abbrev pub bond_ends : List Bond → Ends
bond_ends bonds = map (λ b. (b.a, b.b)) bonds

-- the two ends of each bond
abbrev pub ends_of : Molecule → Ends
ends_of m = bond_ends m.bonds

-- an atom: an element of number 1 to 103, or 0 for `*`, a mass number or 0, and a charge
pub record IsAtom (atom : Atom) : Type 0 where
  pub number : atom.number ≤ 103
  pub isotope : atom.isotope ≤ 999
  pub lowest_charge : neg_ℤ (pos 15) ≤ℤ atom.charge
  pub highest_charge : atom.charge ≤ℤ pos 15

pub record IsMolecule (m : Molecule) : Type 0 where
  pub graph : IsSimpleGraph (length m.atoms) (ends_of m)
  pub each : All IsAtom m.atoms
