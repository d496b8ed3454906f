-- Expressions: operands and the operators that join them (Daylight Theory Manual, section 4.3). `!` binds most, then
-- `&` and being side by side, then `,`, then `;`. For callers.
use Rattle.std.specs.Prelude.{ℕ, List, [], ◌∷◌, ◌++◌, map, replicate, codes}
use Rattle.std.specs.List.{flat_map}
use Rattle.smarts_words.specs.declared.word.Step.{Step}
use Rattle.smarts_words.specs.declared.word.Step.TheVariants as steps

-- a primitive, and the number of `!` before it
pub record Operand (P : Type 0) : Type 0 where
  pub bangs : ℕ
  pub prim : P

-- the joint of an operand and the one before: `;`, `,`, `&`, or side by side
pub data Joining : Type 0 where
  semicolon : Joining
  comma : Joining
  ampersand : Joining
  beside : Joining

abbrev pub joining_text : Joining → List ℕ
joining_text semicolon = codes ";"
joining_text comma = codes ","
joining_text ampersand = codes "&"
joining_text beside = []

pub record Expression (P : Type 0) : Type 0 where
  pub first : Operand P
  pub more : List (Joining × Operand P)

-- f of the first element
abbrev pub at_first : {X : Type 0} → (X → X) → List X → List X
at_first f [] = []
at_first f (x ∷ xs) = f x ∷ xs

-- The operands by levels: parts between `;`, in each of them parts between `,`, in each of these the operands
abbrev pub levels : {P : Type 0} → Operand P → List (Joining × Operand P) → List (List (List (Operand P)))
levels x [] = ((x ∷ []) ∷ []) ∷ []
levels x ((semicolon, y) ∷ more) = ((x ∷ []) ∷ []) ∷ levels y more
levels x ((comma, y) ∷ more) = at_first (λ ors. (x ∷ []) ∷ ors) (levels y more)
levels x ((_, y) ∷ more) = at_first (λ ors. at_first (λ ands. x ∷ ands) ors) (levels y more)

-- Several joined by one operator, grouped to the left, in postfix order: a, b, operator, c, operator, ..
abbrev pub joined : {W : Type 0} → Step W → List (List (Step W)) → List (Step W)
joined operator [] = []
joined operator (x ∷ xs) = x ++ flat_map (λ y. y ++ operator ∷ []) xs

module _ {P W : Type 0} (text : P → List ℕ) (Is : P → Type 0) (Follows : P → List ℕ → Type 0) (word : P → W) (parts : P
    → List (List ℕ)) where
  abbrev pub operand_text : Operand P → List ℕ
  operand_text x = replicate x.bangs 33 ++ text x.prim

  abbrev pub more_text : List (Joining × Operand P) → List ℕ
  more_text [] = []
  more_text (x ∷ xs) = joining_text x.0 ++ (operand_text x.1 ++ more_text xs)

  abbrev pub expression_text : Expression P → List ℕ
  expression_text e = operand_text e.first ++ more_text e.more

  -- each primitive is one, and may be followed by its next bytes, if `rest` follows the expression
  abbrev pub AreMore : List (Joining × Operand P) → List ℕ → Type 0
  AreMore [] rest = Unit {0}
  AreMore (x ∷ xs) rest = Is x.1.prim × Follows x.1.prim (more_text xs ++ rest) × AreMore xs rest

  abbrev pub IsExpression : Expression P → List ℕ → Type 0
  IsExpression e rest = Is e.first.prim × Follows e.first.prim (more_text e.more ++ rest) × AreMore e.more rest

  -- In postfix order: the operands of a step come before it. The steps determine the tree.
  abbrev pub operand_steps : Operand P → List (Step W)
  operand_steps x = steps.Prim (word x.prim) ∷ replicate x.bangs steps.Not

  abbrev pub expression_steps : Expression P → List (Step W)
  expression_steps e = joined steps.And
      (map (λ ors. joined steps.Or (map (λ ands. joined steps.And (map operand_steps ands)) ors))
      (levels e.first e.more))

  abbrev pub expression_parts : Expression P → List (List ℕ)
  expression_parts e = parts e.first.prim ++ flat_map (λ x. parts x.1.prim) e.more
