-- A record and a page, as contracts see them.
use Rattle.std.specs.Prelude.{◌≡◌, Bool, length, List, map, ℕ}
use Rattle.std.specs.Arc.{arc_value}
use Rattle.std.specs.declared.alloc.Global.{Global}
use Rattle.std.specs.declared.sync.Arc.{Arc}
use Rattle.chem_core.specs.Bits.{set_bits}
use Rattle.chem_core.specs.Molecule.{IsMolecule, Molecule}
use Rattle.mol_finish.specs.Structure.{HasMolecule}
use Rattle.mol_finish.specs.declared.fault.Format.{Format}
use Rattle.store_machine.specs.History.{IsId}
use Rattle.store_machine.specs.Structures.{IsPrintOf}
use Rattle.store_machine.specs.declared.machine.Found.{Found}

pub record RecordTerm : Type 0 where
  pub id : ℕ
  pub format : Format
  pub text : List ℕ
  pub mol : Molecule
  pub print : List Bool

-- the identifier is in range, the structure is the text's and within the limits, and the print the structure's
pub record IsRecord (r : RecordTerm) : Type 0 where
  pub id : IsId r.id
  pub structure : HasMolecule r.format r.text r.mol
  pub molecule : IsMolecule r.mol
  pub print : IsPrintOf r.mol r.print

-- a print has its length, and `bits` bits are set in it
pub record HasBits (print : List Bool) (bits : ℕ) : Type 0 where
  pub length_is : length print ≡ 1024
  pub bits_are : bits ≡ set_bits print

-- records that are shared
abbrev pub Shared : Type 0
Shared = Arc RecordTerm Global

-- as the machine knows a record, and the records of a page
abbrev pub found_of : RecordTerm → Found
found_of r = record { id = r.id; format = r.format; text = r.text }

abbrev pub founds : List Shared → List Found
founds records = map (λ r. found_of (arc_value r)) records

-- its records, and the number that there is room for
pub record PageTerm : Type 0 where
  pub records : List Shared
  pub room : ℕ
