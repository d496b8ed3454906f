-- The primitives of an atom expression: their spellings, the bytes that may follow them, and their values (Daylight
-- Theory Manual, section 4.1). For callers.
use Rattle.std.specs.Prelude.{◌≡◌, ◌≢◌, ◌⊎◌, ℕ, ◌+◌, ◌-◌, ◌≤◌, ◌==◌, Bool, true, false, MatchBool, List, [], ◌∷◌, ◌++◌, length, replicate, slice_get, slice_index_or, ℤ, Option, None, Some, codes}
use Rattle.std.specs.List.{AllByRecursion}
use Rattle.chem_core.specs.Element.{symbols}
use Rattle.smiles_words.specs.Atom.{IsDigit, value_of, Lower, lower_bytes, lower_number, ChiralClass, class_bytes, Sign, sign_byte, signed}
use Rattle.smarts_words.specs.declared.word.Letter.{Letter}
use Rattle.smarts_words.specs.declared.word.Letter.TheVariants as letters
use Rattle.smarts_words.specs.declared.word.AtomWord.{AtomWord}
use Rattle.smarts_words.specs.declared.word.AtomWord.TheVariants as words

-- a number, as its digits: one to three
abbrev pub IsNumber : List ℕ → Type 0
IsNumber digits = (1 ≤ length digits) × (length digits ≤ 3) × AllByRecursion IsDigit digits

-- the letters that a number may follow
abbrev pub letter_byte : Letter → ℕ
letter_byte letters.Degree = 68
letter_byte letters.TotalH = 72
letter_byte letters.ImplicitH = 104
letter_byte letters.Rings = 82
letter_byte letters.RingSize = 114
letter_byte letters.Valence = 118
letter_byte letters.Connect = 88
letter_byte letters.RingBonds = 120

-- a charge: a run of one sign, or a sign and a number
pub data Signs : Type 0 where
  run : (sign : Sign) → (count : ℕ) → Signs
  amount : (sign : Sign) → (digits : List ℕ) → Signs

abbrev pub signs_text : Signs → List ℕ
signs_text (run sign count) = replicate count (sign_byte sign)
signs_text (amount sign digits) = sign_byte sign ∷ digits

-- the byte that a charge begins with
abbrev pub sign_of : Signs → ℕ
sign_of (run sign count) = sign_byte sign
sign_of (amount sign digits) = sign_byte sign

-- No text that is read has more signs: a longer text is refused for its length before its grammar is asked.
abbrev pub most_signs : ℕ
most_signs = 4096

abbrev pub AreSigns : Signs → Type 0
AreSigns (run sign count) = (1 ≤ count) × (count ≤ most_signs)
AreSigns (amount sign digits) = IsNumber digits

abbrev pub charge_of : Signs → ℤ
charge_of (run sign count) = signed sign count
charge_of (amount sign digits) = signed sign (value_of digits)

-- a configuration: `@`, `@@`, or `@` with a class and one or two digits; a `?` may follow
pub data Turn : Type 0 where
  one : Turn
  two : Turn
  numbered : (kind : ChiralClass) → (digits : List ℕ) → Turn

pub record Stereo : Type 0 where
  pub turn : Turn
  pub unsure : Bool

abbrev pub turn_text : Turn → List ℕ
turn_text one = codes "@"
turn_text two = codes "@@"
turn_text (numbered kind digits) = 64 ∷ (class_bytes kind ++ digits)

abbrev pub mark_text : Bool → List ℕ
mark_text true = codes "?"
mark_text false = []

abbrev pub stereo_text : Stereo → List ℕ
stereo_text x = turn_text x.turn ++ mark_text x.unsure

-- one or two digits
abbrev pub AreDigits : List ℕ → Type 0
AreDigits digits = (1 ≤ length digits) × (length digits ≤ 2) × AllByRecursion IsDigit digits

abbrev pub IsTurn : Turn → Type 0
IsTurn one = Unit {0}
IsTurn two = Unit {0}
IsTurn (numbered kind digits) = AreDigits digits

-- parentheses pair, if n are open before
abbrev pub IsBalancedIn : ℕ → List ℕ → Type 0
IsBalancedIn n [] = n ≡ 0
IsBalancedIn n (b ∷ bs) =
    MatchBool (b == 40) (IsBalancedIn (n + 1) bs) (MatchBool (b == 41) ((1 ≤ n) × IsBalancedIn (n - 1) bs)
    (IsBalancedIn n bs))

pub data Prim : Type 0 where
  any : Prim
  aromatic : Prim
  aliphatic : Prim
  -- a symbol in upper case, by its atomic number
  element : (number : ℕ) → Prim
  lower : Lower → Prim
  -- `#` and a number
  atomic : (digits : List ℕ) → Prim
  -- a letter, and a number, which may be left out
  counted : Letter → (digits : List ℕ) → Prim
  charge : Signs → Prim
  mass : (digits : List ℕ) → Prim
  -- a recursive part, without its parentheses
  part : (text : List ℕ) → Prim
  stereo : Stereo → Prim

abbrev pub prim_text : Prim → List ℕ
prim_text any = codes "*"
prim_text aromatic = codes "a"
prim_text aliphatic = codes "A"
prim_text (element number) = slice_index_or symbols number []
prim_text (lower l) = lower_bytes l
prim_text (atomic digits) = 35 ∷ digits
prim_text (counted letter digits) = letter_byte letter ∷ digits
prim_text (charge signs) = signs_text signs
prim_text (mass digits) = digits
prim_text (part text) = 36 ∷ 40 ∷ (text ++ 41 ∷ [])
prim_text (stereo x) = stereo_text x

-- Hydrogen has no symbol among these: `H` is a count. The parentheses of a recursive part pair within it.
abbrev pub IsPrim : Prim → Type 0
IsPrim (element number) = (2 ≤ number) × (number ≤ 103)
IsPrim (atomic digits) = IsNumber digits
IsPrim (counted letter digits) = (length digits ≤ 3) × AllByRecursion IsDigit digits
IsPrim (charge signs) = AreSigns signs
IsPrim (mass digits) = IsNumber digits
IsPrim (part text) = IsBalancedIn 0 text
IsPrim (stereo x) = IsTurn x.turn
IsPrim _ = Unit {0}

-- no digit is first
abbrev pub NoDigit : List ℕ → Type 0
NoDigit [] = Unit {0}
NoDigit (b ∷ bs) = ¬ IsDigit b

-- a run of signs has all signs there, and no digit follows it
abbrev pub FollowsSigns : Signs → List ℕ → Type 0
FollowsSigns (run sign count) rest = ((more : List ℕ) → rest ≢ sign_byte sign ∷ more) × NoDigit rest
FollowsSigns (amount sign digits) rest = NoDigit rest

-- two bytes that spell a symbol
abbrev pub AreSymbol : ℕ → ℕ → Type 0
AreSymbol a b = ((number : ℕ) × (slice_get symbols number ≡ Some (a ∷ b ∷ [])))
    ⊎ ((l : Lower) × (lower_bytes l ≡ a ∷ b ∷ []))

-- A byte is alone: with the byte after it, it spells no symbol. Two bytes that spell one are read as one symbol.
abbrev pub StandsAlone : ℕ → List ℕ → Type 0
StandsAlone a [] = Unit {0}
StandsAlone a (b ∷ bs) = ¬ AreSymbol a b

-- the only byte of a symbol is alone
abbrev pub IsWhole : List ℕ → List ℕ → Type 0
IsWhole (a ∷ []) rest = StandsAlone a rest
IsWhole _ rest = Unit {0}

-- no longer configuration is there
abbrev pub IsLongest : Stereo → List ℕ → Type 0
IsLongest x rest = (y : Stereo) (more : List ℕ) → IsTurn y.turn → stereo_text x ++ rest ≡ stereo_text y ++ more
    → length (stereo_text y) ≤ length (stereo_text x)

-- The bytes that may follow: a symbol and a configuration are the longest there, and a number has all digits there.
abbrev pub FollowsPrim : Prim → List ℕ → Type 0
FollowsPrim any rest = Unit {0}
FollowsPrim aromatic rest = StandsAlone 97 rest
FollowsPrim aliphatic rest = StandsAlone 65 rest
FollowsPrim (element number) rest = IsWhole (slice_index_or symbols number []) rest
FollowsPrim (lower l) rest = IsWhole (lower_bytes l) rest
FollowsPrim (atomic digits) rest = NoDigit rest
FollowsPrim (counted letter []) rest = StandsAlone (letter_byte letter) rest × NoDigit rest
FollowsPrim (counted letter digits) rest = NoDigit rest
FollowsPrim (charge signs) rest = FollowsSigns signs rest
FollowsPrim (mass digits) rest = NoDigit rest
FollowsPrim (part text) rest = Unit {0}
FollowsPrim (stereo x) rest = IsLongest x rest

-- a number, if one is written
abbrev pub number_of : List ℕ → Option ℕ
number_of [] = None
number_of digits = Some (value_of digits)

-- the word of a primitive; a recursive part gives its place alone, and a configuration only that it is one
abbrev pub word_of : Prim → AtomWord
word_of any = words.Any
word_of aromatic = words.Aromatic
word_of aliphatic = words.Aliphatic
word_of (element number) = words.Symbol number false
word_of (lower l) = words.Symbol (lower_number l) true
word_of (atomic digits) = words.Number (value_of digits)
word_of (counted letter digits) = words.Count letter (number_of digits)
word_of (charge signs) = words.Charge (charge_of signs)
word_of (mass digits) = words.Mass (value_of digits)
word_of (part text) = words.Part
word_of (stereo x) = words.Stereo

-- the text of a recursive part
abbrev pub part_of : Prim → List (List ℕ)
part_of (part text) = text ∷ []
part_of _ = []
