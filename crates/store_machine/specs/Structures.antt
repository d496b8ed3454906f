-- The structure of a text, the structure's print, and whether a pattern matches it.
use Rattle.std.specs.Prelude.{◌↔◌, Bool, List, ℕ}
use Rattle.chem_core.specs.Bits.{HasBit}
use Rattle.chem_core.specs.Molecule.{Molecule, IsMolecule}
use Rattle.mol_finish.specs.Structure.{HasMolecule}
use Rattle.mol_finish.specs.declared.fault.Format.{Format}
use Rattle.path_print.specs.Path.{Family, IsPathBit}
use Rattle.path_print.specs.Prints.{IsNeed, molecule_view}
use Rattle.smarts_parse.specs.Embedding.{Matches}
use Rattle.smarts_parse.specs.Pattern.{PatternTerm}

-- the text has a structure
abbrev pub IsText : Format → List ℕ → Type 0
IsText format text = (m : Molecule) × HasMolecule format text m

-- a bit of the structure's print: that of one of its paths, in one of the two families
abbrev pub HasPrintBit : Molecule → ℕ → Type 0
HasPrintBit m bit = (family : Family) × IsPathBit (molecule_view m family) bit

abbrev pub IsPrintOf : Molecule → List Bool → Type 0
IsPrintOf m print = (bit : ℕ) → HasBit print bit ↔ HasPrintBit m bit

-- the structure's print contains the wanted bits
abbrev pub HasAll : Molecule → List Bool → Type 0
HasAll m want = (bit : ℕ) → HasBit want bit → HasPrintBit m bit

-- a text's print has the bits that a search asks for
abbrev pub IsScreened : List Bool → Format → List ℕ → Type 0
IsScreened want format text = (m : Molecule) × HasMolecule format text m × HasAll m want

-- a search's pattern matches a text
abbrev pub IsMatched : PatternTerm → Format → List ℕ → Type 0
IsMatched pattern format text = (m : Molecule) × HasMolecule format text m × Matches pattern m

-- the bits that a pattern needs of a print
abbrev pub IsNeedOf : PatternTerm → List Bool → Type 0
IsNeedOf pattern want = IsNeed pattern want

-- each structure that the pattern matches has the wanted bits
abbrev pub Screens : PatternTerm → List Bool → Type 0
Screens pattern want = (m : Molecule) → IsMolecule m → Matches pattern m → HasAll m want
