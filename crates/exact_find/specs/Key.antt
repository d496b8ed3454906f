-- The key of a molecule. For callers.
use Rattle.std.specs.Prelude.{◌≡◌, ℕ, ◌+◌, ◌*◌, List, length, map, sum, pos, neg_ℤ}
use Rattle.std.specs.List.{enumerate_from}
use Rattle.std.specs.Int.{from_bool, int_gap}
use Rattle.chem_core.specs.declared.mol.Atom.{Atom}
use Rattle.chem_core.specs.Graph.{degree}
use Rattle.chem_core.specs.Molecule.{Molecule, ends_of}
use Rattle.exact_find.specs.declared.key.Key.{Key}

-- the charge, counted from -15
abbrev pub charge_code : Atom → ℕ
charge_code atom = int_gap (neg_ℤ (pos 15)) atom.charge

-- the part of an atom's code that depends on the atom alone
abbrev pub atom_code : Atom → ℕ
atom_code atom = ((((atom.number * 1000) + atom.isotope) * 31 + charge_code atom) * 256 + atom.hydrogens) * 2
    + from_bool atom.aromatic

-- the code of an atom, with its number of neighbours
abbrev pub code : Molecule → ℕ × Atom → ℕ
code m at = atom_code at.1 * 13 + degree (ends_of m) at.0

-- the codes of all atoms
abbrev pub codes : Molecule → List ℕ
codes m = map (code m) (enumerate_from 0 m.atoms)

-- the counts, and the sums of the codes and of their squares
pub record IsKey (m : Molecule) (k : Key) : Type 0 where
  pub atoms : k.atoms ≡ length m.atoms
  pub bonds : k.bonds ≡ length m.bonds
  pub sum_of : k.sum ≡ sum (codes m)
  pub squares : k.squares ≡ sum (map (λ c. c * c) (codes m))
