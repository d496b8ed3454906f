-- An atom of a pattern as it is written (Daylight Theory Manual, section 4.1). A text is an atom exactly if it spells
-- an Atom that satisfies IsAtom. For callers.
use Rattle.std.specs.Prelude.{◌≢◌, ℕ, ◌≤◌, false, true, List, [], ◌∷◌, ◌++◌, length, map, ℤ, Option, None, Some, codes}
use Rattle.std.specs.List.{AllByRecursion}
use Rattle.chem_core.specs.Organic.{Organic, symbol_bytes, atomic_number}
use Rattle.smiles_words.specs.Atom.{IsDigit, value_of, Lower, lower_bytes, lower_number, IsOrganicLower, class_text, IsClass}
use Rattle.smarts_words.specs.declared.word.AtomWord.{AtomWord}
use Rattle.smarts_words.specs.declared.word.AtomWord.TheVariants as words
use Rattle.smarts_words.specs.declared.word.Step.{Step}
use Rattle.smarts_words.specs.declared.word.Step.TheVariants as steps
use Rattle.smarts_words.specs.Prims.{Prim, prim_text, IsPrim, FollowsPrim, word_of, part_of, Signs, signs_text, AreSigns, charge_of}
use Rattle.smarts_words.specs.Expression.{Expression, joined}
use Rattle.smarts_words.specs.Expression as expression

-- The value of an atom: its expression in postfix order, and the texts of its recursive parts from left to right
pub record AtomValue : Type 0 where
  pub steps : List (Step AtomWord)
  pub parts : List (List ℕ)

-- an atom expression
abbrev pub expression_text : Expression Prim → List ℕ
expression_text e = expression.expression_text prim_text IsPrim FollowsPrim word_of part_of e

abbrev pub IsExpression : Expression Prim → List ℕ → Type 0
IsExpression e rest = expression.IsExpression prim_text IsPrim FollowsPrim word_of part_of e rest

abbrev pub expression_value : Expression Prim → AtomValue
expression_value e = record {
  steps = expression.expression_steps prim_text IsPrim FollowsPrim word_of part_of e;
  parts = expression.expression_parts prim_text IsPrim FollowsPrim word_of part_of e;
}

-- a hydrogen atom: its mass, if it is written, `H`, and its charge, if it is written
pub record Hydro : Type 0 where
  pub mass : List ℕ
  pub charge : Option Signs

abbrev pub charge_text : Option Signs → List ℕ
charge_text None = []
charge_text (Some signs) = signs_text signs

-- the value of a charge, if it is written
abbrev pub charge_value : Option Signs → Option ℤ
charge_value None = None
charge_value (Some signs) = Some (charge_of signs)

abbrev pub hydro_text : Hydro → List ℕ
hydro_text h = h.mass ++ 72 ∷ charge_text h.charge

abbrev pub IsCharge : Option Signs → Type 0
IsCharge None = Unit {0}
IsCharge (Some signs) = AreSigns signs

abbrev pub IsHydro : Hydro → Type 0
IsHydro h = (length h.mass ≤ 3) × AllByRecursion IsDigit h.mass × IsCharge h.charge

pub data Inside : Type 0 where
  hydro : Hydro → Inside
  low : Expression Prim → Inside

abbrev pub inside_text : Inside → List ℕ
inside_text (hydro h) = hydro_text h
inside_text (low e) = expression_text e

-- the text in brackets; a class is dropped
pub record Bracket : Type 0 where
  pub inside : Inside
  pub class : Option (List ℕ)

-- after the inside
abbrev pub end_text : Option (List ℕ) → List ℕ
end_text class = class_text class ++ 93 ∷ []

abbrev pub bracket_text : Bracket → List ℕ
bracket_text x = 91 ∷ (inside_text x.inside ++ end_text x.class)

-- an inside that can be read as a hydrogen atom is one
abbrev pub IsInside : Inside → List ℕ → Type 0
IsInside (hydro h) rest = IsHydro h
IsInside (low e) rest = IsExpression e rest × ((h : Hydro) → IsHydro h → hydro_text h ≢ expression_text e)

abbrev pub IsBracket : Bracket → Type 0
IsBracket x = IsInside x.inside (end_text x.class) × IsClass x.class

pub data Atom : Type 0 where
  star : Atom
  aromatic : Atom
  aliphatic : Atom
  organic : Organic → Atom
  lower : Lower → Atom
  bracket : Bracket → Atom

abbrev pub atom_text : Atom → List ℕ
atom_text star = codes "*"
atom_text aromatic = codes "a"
atom_text aliphatic = codes "A"
atom_text (organic x) = symbol_bytes x
atom_text (lower x) = lower_bytes x
atom_text (bracket x) = bracket_text x

abbrev pub IsAtom : Atom → Type 0
IsAtom (lower x) = IsOrganicLower x
IsAtom (bracket x) = IsBracket x
IsAtom _ = Unit {0}

-- one primitive
abbrev pub single : AtomWord → AtomValue
single word = record { steps = steps.Prim word ∷ []; parts = [] }

abbrev pub mass_words : List ℕ → List AtomWord
mass_words [] = []
mass_words digits = words.Mass (value_of digits) ∷ []

abbrev pub charge_words : Option Signs → List AtomWord
charge_words None = []
charge_words (Some signs) = words.Charge (charge_of signs) ∷ []

-- hydrogen, with the mass and the charge that are written
abbrev pub hydro_words : Hydro → List AtomWord
hydro_words h = words.Symbol 1 false ∷ (mass_words h.mass ++ charge_words h.charge)

abbrev pub inside_value : Inside → AtomValue
inside_value (hydro h) = record {
  steps = joined steps.And (map (λ word. steps.Prim word ∷ []) (hydro_words h));
  parts =
      [];
}
inside_value (low e) = expression_value e

abbrev pub value_of_atom : Atom → AtomValue
value_of_atom star = single words.Any
value_of_atom aromatic = single words.Aromatic
value_of_atom aliphatic = single words.Aliphatic
value_of_atom (organic x) = single (words.Symbol (atomic_number x) false)
value_of_atom (lower x) = single (words.Symbol (lower_number x) true)
value_of_atom (bracket x) = inside_value x.inside
