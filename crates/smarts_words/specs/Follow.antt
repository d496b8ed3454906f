-- The answers of readers of pieces whose next bytes depend on the piece. For private clauses only.
use Rattle.std.specs.Prelude.{◌≡◌, ◌≢◌, ◌⊎◌, ℕ, ◌≤◌, List, [], ◌∷◌, ◌++◌, length, ℤ, Option, IfSome, IsSomeAnd}
use Rattle.smarts_words.specs.Prims.{Turn, one, two, numbered, Prim, any, aromatic, aliphatic, element, lower, counted, part, prim_text, IsPrim, AreSymbol, FollowsPrim, word_of, part_of, NoDigit, number_of}
use Rattle.smarts_words.specs.Expression.{Expression}
use Rattle.smarts_words.specs.Bracket as atoms
use Rattle.smarts_words.specs.Bracket.{Atom, atom_text, IsAtom, single, value_of_atom, Hydro, charge_value, AtomValue, expression_text, IsExpression, expression_value}
use Rattle.smarts_words.specs.declared.word.AtomWord.{AtomWord}
use Rattle.smarts_words.specs.declared.word.AtomWord.TheVariants as words
use Rattle.smarts_words.specs.declared.word.Letter.{Letter}
use Rattle.smiles_words.specs.Atom.{IsDigit, ChiralClass, class_bytes}
use Rattle.std.specs.List.{AllByRecursion}

-- A piece that the bytes begin with, its value, and the bytes after it, which may follow it. If a piece there may be
-- followed by the bytes after it, it is that piece.
pub record Takes {X V : Type 0} (text : X → List ℕ) (Is : X → Type 0) (Follows : X → List ℕ → Type 0) (value : X
    → V) (bytes : List ℕ) (result : Option (V × List ℕ)) : Type 0 where
  pub found : IfSome result (λ r. (x : X) × Is x × (bytes ≡ text x ++ r.1) × Follows x r.1 × (r.0 ≡ value x))
  pub only : (x : X) (rest : List ℕ) → Is x → Follows x rest → bytes ≡ text x ++ rest
      → IsSomeAnd result (λ r. r.1 ≡ rest)

-- a primitive of a symbol, `*`, `a` or `A`
abbrev pub IsBare : Prim → Type 0
IsBare any = Unit {0}
IsBare aromatic = Unit {0}
IsBare aliphatic = Unit {0}
IsBare (element number) = Unit {0}
IsBare (lower l) = Unit {0}
IsBare _ = ⊥

-- or one of a letter and a number
abbrev pub IsLettered : Prim → Type 0
IsLettered (counted letter digits) = Unit {0}
IsLettered x = IsBare x

-- no recursive part
abbrev pub IsWord : Prim → Type 0
IsWord (part text) = ⊥
IsWord _ = Unit {0}

-- two bytes that spell a symbol, and the word of it
pub record IsPair (a b : ℕ) (word : AtomWord) : Type 0 where
  pub prim : Prim
  pub is : IsPrim prim
  pub bare : IsBare prim
  pub spelled : prim_text prim ≡ a ∷ b ∷ []
  pub symbol : AreSymbol a b
  pub value : word ≡ word_of prim

-- a byte that spells a symbol, `*`, `a` or `A`, and the word of it
pub record IsSingle (a : ℕ) (word : AtomWord) : Type 0 where
  pub prim : Prim
  pub is : IsPrim prim
  pub bare : IsBare prim
  pub spelled : prim_text prim ≡ a ∷ []
  pub value : word ≡ word_of prim

-- the value of the bytes after a letter: its number
abbrev pub IsCountAt : Letter → List ℕ → Option (AtomWord × List ℕ) → Type 0
IsCountAt letter = Takes (λ (digits : List ℕ). digits) (λ digits. (length digits ≤ 3) × AllByRecursion IsDigit digits)
    (λ digits rest. NoDigit rest) (λ digits. words.Count letter (number_of digits))

-- no other digit follows one digit
abbrev pub DigitsEnd : List ℕ → List ℕ → Type 0
DigitsEnd (digit ∷ []) rest = NoDigit rest
DigitsEnd digits rest = Unit {0}

-- no longer turn is there: no second `@` and no class with a digit, or no second digit
abbrev pub TurnEnds : Turn → List ℕ → Type 0
TurnEnds one rest = ((more : List ℕ) → rest ≢ 64 ∷ more) × ((kind : ChiralClass) (digit : ℕ) (more : List ℕ)
    → IsDigit digit → rest ≢ class_bytes kind ++ digit ∷ more)
TurnEnds two rest = Unit {0}
TurnEnds (numbered kind digits) rest = DigitsEnd digits rest

-- the primitive that bytes begin with: its word, and its text if it is a recursive part
abbrev pub PrimAt : List ℕ → Option ((AtomWord × List (List ℕ)) × List ℕ) → Type 0
PrimAt = Takes {V = AtomWord × List (List ℕ)} prim_text IsPrim FollowsPrim (λ x. (word_of x, part_of x))

-- an expression that bytes begin with, and its value
abbrev pub IsInsideRead : List ℕ → AtomValue → List ℕ → Type 0
IsInsideRead bytes value rest = (e : Expression Prim) × IsExpression e rest × (bytes ≡ expression_text e ++ rest)
    × (value ≡ expression_value e)

-- after the inside of brackets: `:` or `]`
abbrev pub BeginsEnd : List ℕ → Type 0
BeginsEnd [] = ⊥
BeginsEnd (b ∷ bs) = (b ≡ 58) ⊎ (b ≡ 93)

-- the mass and the charge of a hydrogen atom
pub record IsHydroRead (h : Hydro) (mass : Option ℕ) (charge : Option ℤ) : Type 0 where
  pub mass_is : mass ≡ number_of h.mass
  pub charge_is : charge ≡ charge_value h.charge

-- an atom without brackets
abbrev pub IsBareAtom : Atom → Type 0
IsBareAtom (atoms.bracket x) = ⊥
IsBareAtom _ = Unit {0}

-- a byte that is an atom without brackets, and the word of it
pub record IsBareRead (a : ℕ) (word : AtomWord) : Type 0 where
  pub atom : Atom
  pub is : IsAtom atom
  pub bare : IsBareAtom atom
  pub spelled : atom_text atom ≡ a ∷ []
  pub value : single word ≡ value_of_atom atom
