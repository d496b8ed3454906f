-- For callers: the texts that a lookup asks for, and its answers from the records of its pages.
use Rattle.std.specs.Prelude.{◌≡◌, ◌⊎◌, Bool, length, List, [], ◌∷◌, ℕ}
use Rattle.chem_core.specs.Bits.{HasBit, shared_bits}
use Rattle.chem_core.specs.Molecule.{Molecule}
use Rattle.exact_find.specs.Same.{IsSame}
use Rattle.mol_finish.specs.Structure.{HasMolecule}
use Rattle.mol_finish.specs.declared.fault.Format.{Format}
use Rattle.path_print.specs.Prints.{IsPrint}
use Rattle.similar_find.specs.Board.{Offer}
use Rattle.similar_find.specs.Score.{all_bits}
use Rattle.store_machine.specs.declared.machine.Found.{Found}

-- the text's structure is the same as this one
abbrev pub IsSameAs : Molecule → Format → List ℕ → Type 0
IsSameAs m format text = (n : Molecule) × HasMolecule format text n × IsSame m n

-- the identifiers of those of these records whose texts are asked for, in order
abbrev pub ArePicked : (Format → List ℕ → Type 0) → List Found → List ℕ → Type 0
ArePicked Asked [] hits = hits ≡ []
ArePicked Asked (r ∷ rs) hits =
    (Asked r.format r.text × (rest : List ℕ) × (hits ≡ r.id ∷ rest) × ArePicked Asked rs rest)
    ⊎ (¬ Asked r.format r.text × ArePicked Asked rs hits)

-- a print and that of the text's structure: c bits are in both, and u in at least one
pub record IsScored (print : List Bool) (format : Format) (text : List ℕ) (c u : ℕ) : Type 0 where
  pub molecule : Molecule
  pub structure : HasMolecule format text molecule
  pub own : List Bool
  pub own_is : IsPrint molecule own
  pub both : c ≡ shared_bits print own
  pub either : u ≡ all_bits print own

-- the identifier of each of these records with its two counts, in order
abbrev pub AreScored : List Bool → List Found → List Offer → Type 0
AreScored print [] offers = offers ≡ []
AreScored print (r ∷ rs) offers = (c u : ℕ) × (rest : List Offer) × IsScored print r.format r.text c u
    × (offers ≡ (r.id, c, u) ∷ rest) × AreScored print rs rest

-- a print without a bit
pub record IsEmptyPrint (print : List Bool) : Type 0 where
  pub length_is : length print ≡ 1024
  pub none : (bit : ℕ) → HasBit print bit → ⊥
