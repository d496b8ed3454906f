-- Bond expressions (Daylight Theory Manual, section 4.2). For callers.
use Rattle.std.specs.Prelude.{◌≡◌, ◌≢◌, ◌⊎◌, ℕ, Bool, true, false, ◌==◌, ◌&&◌, List, [], ◌∷◌, Option, None, Some, if◌then◌else◌, codes}
use Rattle.smarts_words.specs.declared.word.BondWord.{BondWord}
use Rattle.smarts_words.specs.declared.word.BondWord.TheVariants as words
use Rattle.smarts_words.specs.declared.word.Step.{Step}
use Rattle.smarts_words.specs.declared.word.Step.TheVariants as steps
use Rattle.smarts_words.specs.Prims.{mark_text}
use Rattle.smarts_words.specs.Expression.{Expression}
use Rattle.smarts_words.specs.Expression as expression

-- `/` and `\` may be followed by `?`
pub data BondPrim : Type 0 where
  single : BondPrim
  double : BondPrim
  triple : BondPrim
  quadruple : BondPrim
  aromatic : BondPrim
  any : BondPrim
  ring : BondPrim
  up : (unsure : Bool) → BondPrim
  down : (unsure : Bool) → BondPrim

abbrev pub bond_prim_text : BondPrim → List ℕ
bond_prim_text single = codes "-"
bond_prim_text double = codes "="
bond_prim_text triple = codes "#"
bond_prim_text quadruple = codes "$"
bond_prim_text aromatic = codes ":"
bond_prim_text any = codes "~"
bond_prim_text ring = codes "@"
bond_prim_text (up unsure) = 47 ∷ mark_text unsure
bond_prim_text (down unsure) = 92 ∷ mark_text unsure

abbrev pub bond_word : BondPrim → BondWord
bond_word single = words.Single
bond_word double = words.Double
bond_word triple = words.Triple
bond_word quadruple = words.Quad
bond_word aromatic = words.Aromatic
bond_word any = words.Any
bond_word ring = words.Ring
bond_word (up unsure) = words.Up
bond_word (down unsure) = words.Down

abbrev pub IsBondPrim : BondPrim → Type 0
IsBondPrim x = Unit {0}

-- a `?` there belongs to `/` and `\`
abbrev pub FollowsBondPrim : BondPrim → List ℕ → Type 0
FollowsBondPrim (up false) rest = (more : List ℕ) → rest ≢ 63 ∷ more
FollowsBondPrim (down false) rest = (more : List ℕ) → rest ≢ 63 ∷ more
FollowsBondPrim _ rest = Unit {0}

abbrev pub no_part : BondPrim → List (List ℕ)
no_part x = []

abbrev pub bond_text : Expression BondPrim → List ℕ
bond_text e = expression.expression_text bond_prim_text IsBondPrim FollowsBondPrim bond_word no_part e

abbrev pub IsBondExpression : Expression BondPrim → List ℕ → Type 0
IsBondExpression e rest = expression.IsExpression bond_prim_text IsBondPrim FollowsBondPrim bond_word no_part e rest

-- the first byte of a bond expression: `!` or that of a primitive
abbrev pub BeginsBond : ℕ → Type 0
BeginsBond b = (b ≡ 33) ⊎ (b ≡ 45) ⊎ (b ≡ 61) ⊎ (b ≡ 35) ⊎ (b ≡ 36) ⊎ (b ≡ 58) ⊎ (b ≡ 126) ⊎ (b ≡ 64) ⊎ (b ≡ 47)
    ⊎ (b ≡ 92)

-- The value of a bond: its expression in postfix order, or no steps if it is not written
abbrev pub bond_value : Option (Expression BondPrim) → List (Step BondWord)
bond_value None = []
bond_value (Some e) = expression.expression_steps bond_prim_text IsBondPrim FollowsBondPrim bond_word no_part e

-- steps are distinguished by numbers
abbrev pub word_number : BondWord → ℕ
word_number words.Single = 0
word_number words.Double = 1
word_number words.Triple = 2
word_number words.Quad = 3
word_number words.Aromatic = 4
word_number words.Any = 5
word_number words.Ring = 6
word_number words.Up = 7
word_number words.Down = 8

abbrev pub step_number : Step BondWord → ℕ
step_number (steps.Prim word) = word_number word
step_number steps.Not = 9
step_number steps.And = 10
step_number steps.Or = 11

abbrev pub same_steps : List (Step BondWord) → List (Step BondWord) → Bool
same_steps [] [] = true
same_steps (x ∷ xs) (y ∷ ys) = (step_number x == step_number y) && same_steps xs ys
same_steps _ _ = false

-- Two ends agree if one of them is not written, or both have one tree. The bond is the written one.
abbrev pub agreed_bond : List (Step BondWord) → List (Step BondWord) → Option (List (Step BondWord))
agreed_bond [] second = Some second
agreed_bond (x ∷ xs) [] = Some (x ∷ xs)
agreed_bond (x ∷ xs) (y ∷ ys) = if same_steps (x ∷ xs) (y ∷ ys) then Some (x ∷ xs) else None
