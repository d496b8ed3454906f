-- An atom as it is written (OpenSMILES 1.0, section 3.1), and its value. A text is an atom exactly if it spells an
-- AtomText that is one. For callers.
use Rattle.std.specs.Prelude.{◌≢◌, ℕ, ◌+◌, ◌*◌, ◌-◌, ◌≤◌, Bool, true, false, List, [], ◌∷◌, ◌++◌, length, replicate, fold, slice_index_or, ℤ, pos, neg_ℤ, Option, None, Some, codes}
use Rattle.std.specs.List.{AllByRecursion}
use Rattle.std.specs.Fmt.{decimal}
use Rattle.chem_core.specs.declared.sketch.SketchAtom.{SketchAtom}
use Rattle.chem_core.specs.declared.sketch.Fill.{Fill}
use Rattle.chem_core.specs.declared.sketch.Fill.TheVariants as fills
use Rattle.chem_core.specs.Element.{symbols}
use Rattle.chem_core.specs.Organic.{Organic, symbol_bytes, atomic_number}

-- a digit, as its byte
abbrev pub IsDigit : ℕ → Type 0
IsDigit b = (48 ≤ b) × (b ≤ 57)

-- the value of digits
abbrev pub value_of : List ℕ → ℕ
value_of digits = fold (λ n b. 10 * n + (b - 48)) 0 digits

-- the symbols in lower case: without brackets b c n o p s, in brackets se and as too
pub data Lower : Type 0 where
  lower_b : Lower
  lower_c : Lower
  lower_n : Lower
  lower_o : Lower
  lower_p : Lower
  lower_s : Lower
  lower_se : Lower
  lower_as : Lower

abbrev pub lower_bytes : Lower → List ℕ
lower_bytes lower_b = codes "b"
lower_bytes lower_c = codes "c"
lower_bytes lower_n = codes "n"
lower_bytes lower_o = codes "o"
lower_bytes lower_p = codes "p"
lower_bytes lower_s = codes "s"
lower_bytes lower_se = codes "se"
lower_bytes lower_as = codes "as"

abbrev pub lower_number : Lower → ℕ
lower_number lower_b = 5
lower_number lower_c = 6
lower_number lower_n = 7
lower_number lower_o = 8
lower_number lower_p = 15
lower_number lower_s = 16
lower_number lower_se = 34
lower_number lower_as = 33

-- it is written without brackets too
abbrev pub IsOrganicLower : Lower → Type 0
IsOrganicLower lower_se = ⊥
IsOrganicLower lower_as = ⊥
IsOrganicLower _ = Unit {0}

-- the symbol in brackets: `*` and the elements by their number, 0 to 103, or one in lower case
pub data Symbol : Type 0 where
  element : (number : ℕ) → Symbol
  lower : Lower → Symbol

abbrev pub symbol_text : Symbol → List ℕ
symbol_text (element number) = slice_index_or symbols number []
symbol_text (lower l) = lower_bytes l

abbrev pub IsSymbol : Symbol → Type 0
IsSymbol (element number) = number ≤ 103
IsSymbol (lower l) = Unit {0}

abbrev pub symbol_number : Symbol → ℕ
symbol_number (element number) = number
symbol_number (lower l) = lower_number l

abbrev pub is_lower : Symbol → Bool
is_lower (element number) = false
is_lower (lower l) = true

-- the classes of chirality that a number follows
pub data ChiralClass : Type 0 where
  th : ChiralClass
  al : ChiralClass
  sp : ChiralClass
  tb : ChiralClass
  oh : ChiralClass

abbrev pub class_bytes : ChiralClass → List ℕ
class_bytes th = codes "TH"
class_bytes al = codes "AL"
class_bytes sp = codes "SP"
class_bytes tb = codes "TB"
class_bytes oh = codes "OH"

-- the greatest number of the class
abbrev pub most_of : ChiralClass → ℕ
most_of th = 2
most_of al = 2
most_of sp = 3
most_of tb = 20
most_of oh = 30

-- a chirality mark, which is read and dropped: nothing, `@`, `@@`, or a class and its number
pub data Chiral : Type 0 where
  none : Chiral
  one : Chiral
  two : Chiral
  numbered : (kind : ChiralClass) → (number : ℕ) → Chiral

abbrev pub chiral_text : Chiral → List ℕ
chiral_text none = []
chiral_text one = codes "@"
chiral_text two = codes "@@"
chiral_text (numbered kind number) = 64 ∷ (class_bytes kind ++ decimal number)

abbrev pub IsChiral : Chiral → Type 0
IsChiral (numbered kind number) = (1 ≤ number) × (number ≤ most_of kind)
IsChiral _ = Unit {0}

-- the count of hydrogens: nothing, `H`, or `H` with a digit
pub data Hydrogens : Type 0 where
  unwritten : Hydrogens
  single : Hydrogens
  counted : (count : ℕ) → Hydrogens

abbrev pub hydrogens_text : Hydrogens → List ℕ
hydrogens_text unwritten = []
hydrogens_text single = codes "H"
hydrogens_text (counted count) = 72 ∷ (48 + count) ∷ []

abbrev pub hydrogen_count : Hydrogens → ℕ
hydrogen_count unwritten = 0
hydrogen_count single = 1
hydrogen_count (counted count) = count

-- at most nine; and hydrogen itself has no count of hydrogens
abbrev pub AreHydrogens : Symbol → Hydrogens → Type 0
AreHydrogens symbol unwritten = Unit {0}
AreHydrogens symbol single = symbol ≢ element 1
AreHydrogens symbol (counted count) = (symbol ≢ element 1) × (count ≤ 9)

pub data Sign : Type 0 where
  plus : Sign
  minus : Sign

abbrev pub sign_byte : Sign → ℕ
sign_byte plus = 43
sign_byte minus = 45

abbrev pub signed : Sign → ℕ → ℤ
signed plus count = pos count
signed minus count = neg_ℤ (pos count)

-- a charge: nothing, a run of one sign, or a sign and digits
pub data Charge : Type 0 where
  neutral : Charge
  run : (sign : Sign) → (count : ℕ) → Charge
  amount : (sign : Sign) → (digits : List ℕ) → Charge

abbrev pub charge_text : Charge → List ℕ
charge_text neutral = []
charge_text (run sign count) = replicate count (sign_byte sign)
charge_text (amount sign digits) = sign_byte sign ∷ digits

abbrev pub charge_value : Charge → ℤ
charge_value neutral = pos 0
charge_value (run sign count) = signed sign count
charge_value (amount sign digits) = signed sign (value_of digits)

-- a run of 1 to 15 signs, or one or two digits of value 0 to 15
abbrev pub IsCharge : Charge → Type 0
IsCharge neutral = Unit {0}
IsCharge (run sign count) = (1 ≤ count) × (count ≤ 15)
IsCharge (amount sign digits) =
    (1 ≤ length digits) × (length digits ≤ 2) × AllByRecursion IsDigit digits × (value_of digits ≤ 15)

-- the contents of brackets
pub record Bracket : Type 0 where
  pub isotope : List ℕ
  pub symbol : Symbol
  pub chiral : Chiral
  pub hydrogens : Hydrogens
  pub charge : Charge
  pub class : Option (List ℕ)

-- a class is dropped
abbrev pub class_text : Option (List ℕ) → List ℕ
class_text None = []
class_text (Some digits) = 58 ∷ digits

abbrev pub IsClass : Option (List ℕ) → Type 0
IsClass None = Unit {0}
IsClass (Some digits) = (1 ≤ length digits) × AllByRecursion IsDigit digits

abbrev pub bracket_text : Bracket → List ℕ
bracket_text x =
    91 ∷ (x.isotope ++ (symbol_text x.symbol ++ (chiral_text x.chiral
    ++ (hydrogens_text x.hydrogens ++ (charge_text x.charge ++ (class_text x.class ++ 93 ∷ []))))))

-- an isotope has at most three digits
pub record IsBracket (x : Bracket) : Type 0 where
  pub short : length x.isotope ≤ 3
  pub digits : AllByRecursion IsDigit x.isotope
  pub symbol : IsSymbol x.symbol
  pub chiral : IsChiral x.chiral
  pub hydrogens : AreHydrogens x.symbol x.hydrogens
  pub charge : IsCharge x.charge
  pub class : IsClass x.class

-- the atom in brackets; its place comes with the sketch
abbrev pub bracket_atom : Bracket → SketchAtom
bracket_atom x = record {
  number = symbol_number x.symbol;
  isotope = value_of x.isotope;
  charge = charge_value x.charge;
  lower = is_lower x.symbol;
  fill = fills.Given;
  hydrogens = hydrogen_count x.hydrogens;
  written = 0;
}

pub data AtomText : Type 0 where
  star : AtomText
  organic : Organic → AtomText
  aromatic : Lower → AtomText
  bracket : Bracket → AtomText

abbrev pub atom_text : AtomText → List ℕ
atom_text star = codes "*"
atom_text (organic x) = symbol_bytes x
atom_text (aromatic x) = lower_bytes x
atom_text (bracket x) = bracket_text x

abbrev pub IsAtomText : AtomText → Type 0
IsAtomText star = Unit {0}
IsAtomText (organic x) = Unit {0}
IsAtomText (aromatic x) = IsOrganicLower x
IsAtomText (bracket x) = IsBracket x

-- an atom without brackets
abbrev pub bare_atom : ℕ → Bool → Fill → SketchAtom
bare_atom number small fill =
    record { number = number; isotope = 0; charge = pos 0; lower = small; fill = fill; hydrogens = 0; written = 0 }

-- the value of an atom; its place comes with the sketch
abbrev pub atom_of : AtomText → SketchAtom
atom_of star = bare_atom 0 false fills.Given
atom_of (organic x) = bare_atom (atomic_number x) false fills.Organic
atom_of (aromatic x) = bare_atom (lower_number x) true fills.Organic
atom_of (bracket x) = bracket_atom x
