-- A print that holds what is wanted is that of a structure that has all of it.
use Rattle.std.proofs.Common.{◌≡◌, ◌↔◌, Bool, List, subst, ℕ}
use Rattle.chem_core.specs.Bits.{HasBit}
use Rattle.chem_core.specs.Molecule.{Molecule}
use Rattle.mol_finish.specs.Structure.{HasMolecule}
use Rattle.mol_finish.specs.declared.fault.Format.{Format}
use Rattle.store_machine.specs.Structures.{HasAll, IsPrintOf, IsScreened}

abbrev pub OneStructure : Type 0
OneStructure = (format : Format) (text : List ℕ) (m n : Molecule) → HasMolecule format text m
    → HasMolecule format text n → m ≡ n

pub screened : OneStructure → (format : Format) (text : List ℕ) (m : Molecule) (print want : List Bool)
    → HasMolecule format text m → IsPrintOf m print
    → ((bit : ℕ) → HasBit want bit → HasBit print bit) ↔ IsScreened want format text
screened one format text m print want h is = (
  λ holds. (m, h, λ bit w. (is bit).0 (holds bit w)),
  λ s bit w. (is bit).1 (subst (λ n. HasAll n want) (one format text s.0 m s.1 h) s.2 bit w),
)
