-- The pieces of an atom as they are read: for private clauses only.
use Rattle.std.specs.Prelude.{ℕ, ◌≤◌, Bool, List, [], ◌++◌, length, slice_index_or, Option, None, Some, codes}
use Rattle.std.specs.List.{AllByRecursion}
use Rattle.chem_core.specs.Element.{symbols}
use Rattle.smiles_words.specs.declared.bracket.Front.{Front}
use Rattle.smiles_words.specs.declared.bracket.End.{End}
use Rattle.smiles_words.specs.Atom.{IsDigit, value_of, Symbol, symbol_text, IsSymbol, symbol_number, is_lower, Chiral, chiral_text, IsChiral, Hydrogens, unwritten, single, counted, hydrogens_text, hydrogen_count, Charge, charge_text, charge_value, IsCharge, class_text, IsClass, IsOrganicLower, AtomText, star, organic, aromatic, bracket}

-- every piece of a kind
abbrev pub IsAny : {X : Type 0} → X → Type 0
IsAny x = Unit {0}

-- a piece that is read and dropped has no value
abbrev pub dropped : {X : Type 0} → X → Unit {0}
dropped x = tt

-- an element, by its number
abbrev pub element_text : ℕ → List ℕ
element_text number = slice_index_or symbols number []

abbrev pub IsElement : ℕ → Type 0
IsElement number = number ≤ 103

abbrev pub element_number : ℕ → ℕ
element_number number = number

-- the number of a symbol, and whether it is in lower case
abbrev pub symbol_value : Symbol → ℕ × Bool
symbol_value s = (symbol_number s, is_lower s)

-- an atom of the organic subset
abbrev pub IsOrganic : AtomText → Type 0
IsOrganic star = ⊥
IsOrganic (organic x) = Unit {0}
IsOrganic (aromatic x) = IsOrganicLower x
IsOrganic (bracket x) = ⊥

-- a number of a class of chirality
abbrev pub IsUpTo : ℕ → ℕ → Type 0
IsUpTo most number = (1 ≤ number) × (number ≤ most)

-- the count of hydrogens, if one is written
abbrev pub written_hydrogens : Hydrogens → Option ℕ
written_hydrogens unwritten = None
written_hydrogens single = Some 1
written_hydrogens (counted count) = Some count

abbrev pub AreFew : Hydrogens → Type 0
AreFew h = hydrogen_count h ≤ 9

-- the front of a bracket after `[`
pub record FrontText : Type 0 where
  pub isotope : List ℕ
  pub symbol : Symbol
  pub chiral : Chiral

abbrev pub front_text : FrontText → List ℕ
front_text x = x.isotope ++ (symbol_text x.symbol ++ chiral_text x.chiral)

pub record IsFront (x : FrontText) : Type 0 where
  pub short : length x.isotope ≤ 3
  pub digits : AllByRecursion IsDigit x.isotope
  pub symbol : IsSymbol x.symbol
  pub chiral : IsChiral x.chiral

abbrev pub front_of : FrontText → Front
front_of x = record { isotope = value_of x.isotope; number = symbol_number x.symbol; lower = is_lower x.symbol }

-- the end of a bracket, with `]`
pub record EndText : Type 0 where
  pub hydrogens : Hydrogens
  pub charge : Charge
  pub class : Option (List ℕ)

abbrev pub end_text : EndText → List ℕ
end_text x = hydrogens_text x.hydrogens ++ (charge_text x.charge ++ (class_text x.class ++ codes "]"))

pub record IsEnd (x : EndText) : Type 0 where
  pub hydrogens : AreFew x.hydrogens
  pub charge : IsCharge x.charge
  pub class : IsClass x.class

abbrev pub end_of : EndText → End
end_of x = record { hydrogens = written_hydrogens x.hydrogens; charge = charge_value x.charge }
