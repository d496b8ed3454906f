-- The bytes that may follow the pieces of a SMILES, by the first byte: for private clauses and the words.
use Rattle.std.specs.Prelude.{◌≡◌, ◌⊎◌, ℕ, ◌<◌, List, [], ◌∷◌, codes}
use Rattle.line_walk.specs.Follow.{Begins}

-- the byte is one of these
abbrev pub IsOneOf : List ℕ → ℕ → Type 0
IsOneOf [] b = ⊥
IsOneOf (x ∷ xs) b = (b ≡ x) ⊎ IsOneOf xs b

-- the bytes go on, with one of these
abbrev pub GoesOn : List ℕ → List ℕ → Type 0
GoesOn bytes rest = Begins (IsOneOf bytes) rest

-- no digit
abbrev pub NoDigitFirst : List ℕ → Type 0
NoDigitFirst [] = Unit {0}
NoDigitFirst (b ∷ bs) = (b < 48) ⊎ (57 < b)

-- in brackets: after the class, the charge, the hydrogens, the chirality mark, and the symbol
abbrev pub AfterClass : List ℕ → Type 0
AfterClass rest = GoesOn (codes "]") rest

abbrev pub AfterCharge : List ℕ → Type 0
AfterCharge rest = GoesOn (codes ":]") rest

abbrev pub AfterHydrogens : List ℕ → Type 0
AfterHydrogens rest = GoesOn (codes "+-:]") rest

abbrev pub AfterChiral : List ℕ → Type 0
AfterChiral rest = GoesOn (codes "H+-:]") rest

abbrev pub AfterSymbol : List ℕ → Type 0
AfterSymbol rest = GoesOn (codes "@H+-:]") rest
