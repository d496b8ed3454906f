-- The organic subset in upper case, written without brackets (OpenSMILES 1.0, section 3.1.5), and bond symbols. For
-- callers.
use Rattle.std.specs.Prelude.{ℕ, List, [], ◌∷◌}

pub data Organic : Type 0 where
  boron : Organic
  carbon : Organic
  nitrogen : Organic
  oxygen : Organic
  phosphorus : Organic
  sulfur : Organic
  fluorine : Organic
  chlorine : Organic
  bromine : Organic
  iodine : Organic

-- the bytes of the symbol
abbrev pub symbol_bytes : Organic → List ℕ
symbol_bytes boron = 66 ∷ []
symbol_bytes carbon = 67 ∷ []
symbol_bytes nitrogen = 78 ∷ []
symbol_bytes oxygen = 79 ∷ []
symbol_bytes phosphorus = 80 ∷ []
symbol_bytes sulfur = 83 ∷ []
symbol_bytes fluorine = 70 ∷ []
symbol_bytes chlorine = 67 ∷ 108 ∷ []
symbol_bytes bromine = 66 ∷ 114 ∷ []
symbol_bytes iodine = 73 ∷ []

abbrev pub atomic_number : Organic → ℕ
atomic_number boron = 5
atomic_number carbon = 6
atomic_number nitrogen = 7
atomic_number oxygen = 8
atomic_number phosphorus = 15
atomic_number sulfur = 16
atomic_number fluorine = 9
atomic_number chlorine = 17
atomic_number bromine = 35
atomic_number iodine = 53

-- the symbols `-`, `=` and `#`
pub data BondMark : Type 0 where
  minus : BondMark
  equals : BondMark
  hash : BondMark

abbrev pub mark_byte : BondMark → ℕ
mark_byte minus = 45
mark_byte equals = 61
mark_byte hash = 35
