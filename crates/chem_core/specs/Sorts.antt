-- Sorts of atoms and of bonds, by the classes of atoms and the kinds of bonds alone, and the number of each that a
-- molecule has. For callers.
use Rattle.std.specs.Prelude.{◌≡◌, ◌⊎◌, ◌==◌, ◌&&◌, ◌||◌, ◌<◌, ℕ, Bool, List, [], ◌∷◌, None, Option, Some, count_by, min, slice_get, slice_index, slice_index_or}
use Rattle.std.specs.Int.{bit_at}
use Rattle.chem_core.specs.declared.sort_counts.BondSort.{BondSort}
use Rattle.chem_core.specs.declared.sort_counts.SortCounts.{SortCounts}
use Rattle.chem_core.specs.declared.sort_counts.TheConstants.{ANY, AROMATIC, AROMATIC_CARBON, CARBON, HALOGEN, NITROGEN, OTHER, OXYGEN}
use Rattle.chem_core.specs.declared.mol.Atom.{Atom}
use Rattle.chem_core.specs.declared.mol.Bond.{Bond}
use Rattle.chem_core.specs.declared.mol.BondKind.{BondKind}
use Rattle.chem_core.specs.declared.mol.BondKind.TheVariants.{Single, Double, Triple, Quad, Aromatic}
use Rattle.chem_core.specs.Symbols.{class_of}

-- the classes of the atoms of each sort, a bit for each class
unfoldable pub atom_sorts : List ℕ
atom_sorts = AROMATIC_CARBON ∷ CARBON ∷ NITROGEN ∷ HALOGEN ∷ OTHER ∷ 0 ∷ 0 ∷ 0 ∷ []

-- the kinds of the bonds of each sort, and the classes of the two ends
unfoldable pub bond_sorts : List BondSort
bond_sorts =
    record { kinds = 17; one = CARBON; other = CARBON }
    ∷ record { kinds = 2; one = ANY; other = ANY }
    ∷ record { kinds = 16; one = ANY; other = ANY }
    ∷ record { kinds = 1; one = AROMATIC; other = AROMATIC }
    ∷ record { kinds = 2; one = OXYGEN; other = ANY }
    ∷ record { kinds = 0; one = 0; other = 0 }
    ∷ record { kinds = 0; one = 0; other = 0 }
    ∷ record { kinds = 0; one = 0; other = 0 }
    ∷ []

abbrev pub atom_sort : ℕ → ℕ
atom_sort k = slice_index atom_sorts k

abbrev pub bond_sort : ℕ → BondSort
bond_sort k = slice_index_or bond_sorts k (record { kinds = 0; one = 0; other = 0 })

-- a number for each kind of bond
abbrev pub kind_number : BondKind → ℕ
kind_number Single = 0
kind_number Double = 1
kind_number Triple = 2
kind_number Quad = 3
kind_number Aromatic = 4

-- the bit is set
abbrev pub has_class : ℕ → ℕ → Bool
has_class classes c = bit_at classes c == 1

-- the class of the atom at a place
abbrev pub class_there : Option Atom → ℕ
class_there None = 0
class_there (Some x) = class_of x

abbrev pub class_in : List Atom → ℕ → ℕ
class_in atoms place = class_there (slice_get atoms place)

-- the atom is of sort k
abbrev pub is_atom_of : ℕ → Atom → Bool
is_atom_of k x = has_class (atom_sort k) (class_of x)

-- a bond of this kind with ends of these classes is of the sort, in either direction
abbrev pub is_of_sort : BondSort → ℕ → ℕ → ℕ → Bool
is_of_sort s kind a b = has_class s.kinds kind
    && ((has_class s.one a && has_class s.other b) || (has_class s.one b && has_class s.other a))

-- the bond is of sort k
abbrev pub is_bond_of : ℕ → List Atom → Bond → Bool
is_bond_of k atoms x = is_of_sort (bond_sort k) (kind_number x.kind) (class_in atoms x.a) (class_in atoms x.b)

-- for each sort the number of atoms or bonds of it, 255 if there are more
pub record AreCounts (atoms : List Atom) (bonds : List Bond) (counts : SortCounts) : Type 0 where
  pub of_atoms : (k : ℕ) → k < 8 → slice_index counts.atoms k ≡ min 255 (count_by (is_atom_of k) atoms)
  pub of_bonds : (k : ℕ) → k < 8 → slice_index counts.bonds k ≡ min 255 (count_by (is_bond_of k atoms) bonds)

-- one of the counts is less than that at its place in a second list
abbrev pub IsLess : List ℕ → List ℕ → Type 0
IsLess counts asked = (k : ℕ) × (k < 8) × (slice_index counts k < slice_index asked k)

abbrev pub Lacks : SortCounts → SortCounts → Type 0
Lacks counts asked = IsLess counts.atoms asked.atoms ⊎ IsLess counts.bonds asked.bonds
