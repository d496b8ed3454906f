-- When two molecules are the same structure. For callers.
use Rattle.std.specs.Prelude.{◌≡◌, ◌≢◌, ◌⊎◌, ℕ, List, length, slice_get, slice_index, Some, AllPairs, Contains}
use Rattle.chem_core.specs.declared.mol.Atom.{Atom}
use Rattle.chem_core.specs.declared.mol.BondKind.{BondKind}
use Rattle.chem_core.specs.Molecule.{Molecule}

-- a bond of the kind joins the atoms x and y; it has no direction
abbrev pub HasBond : Molecule → ℕ → ℕ → BondKind → Type 0
HasBond m x y kind = Contains m.bonds (record { a = x; b = y; kind = kind })
    ⊎ Contains m.bonds (record { a = y; b = x; kind = kind })

-- atoms with the same fields; their valences are not compared
pub record IsAlike (x y : Atom) : Type 0 where
  pub number : x.number ≡ y.number
  pub isotope : x.isotope ≡ y.isotope
  pub charge : x.charge ≡ y.charge
  pub hydrogens : x.hydrogens ≡ y.hydrogens
  pub aromatic : x.aromatic ≡ y.aromatic

-- Distinct atoms of n, one for each atom of m, which are alike. Each bond of m is taken to a bond of n of its kind.
pub record IsImage (m n : Molecule) (image : List ℕ) : Type 0 where
  pub one_each : length image ≡ length m.atoms
  pub distinct : AllPairs ◌≢◌ image
  pub alike : (a : ℕ) (x : Atom) → slice_get m.atoms a ≡ Some x
      → (y : Atom) × (slice_get n.atoms (slice_index image a) ≡ Some y) × IsAlike x y
  pub bonds : (x y : ℕ) (kind : BondKind) → HasBond m x y kind
      → HasBond n (slice_index image x) (slice_index image y) kind

-- equally many atoms and bonds, and an image
pub record IsSame (m n : Molecule) : Type 0 where
  pub atoms : length m.atoms ≡ length n.atoms
  pub bonds : length m.bonds ≡ length n.bonds
  pub image : List ℕ
  pub is : IsImage m n image
