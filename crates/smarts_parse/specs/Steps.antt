-- Steps in postfix order, one by one: for private clauses only.
use Rattle.std.specs.Prelude.{◌≡◌, ℕ, ◌+◌, ◌-◌, ◌≤◌, false, List, [], ◌∷◌, length}
use Rattle.std.specs.List.{flat_map, list_any}
use Rattle.smarts_words.specs.declared.word.Step.{Step}
use Rattle.smarts_words.specs.declared.word.Step.TheVariants as steps
use Rattle.smarts_words.specs.declared.word.AtomWord.{AtomWord}
use Rattle.smarts_words.specs.declared.word.AtomWord.TheVariants as words
use Rattle.smarts_words.specs.Bracket.{AtomValue}
use Rattle.smarts_parse.specs.declared.pattern.Expr.{Expr}
use Rattle.smarts_parse.specs.Pattern.{term_of}
use Rattle.smarts_parse.specs.Meaning.{postfix}
use Rattle.smarts_parse.specs.Reading.{is_stereo}

-- the number of expressions that a step takes
abbrev pub operands : {P : Type 0} → Step P → ℕ
operands (steps.Prim p) = 0
operands steps.Not = 1
operands steps.And = 2
operands steps.Or = 2

-- if n expressions precede these steps, one is left after them
abbrev pub LeaveOne : {P : Type 0} → ℕ → List (Step P) → Type 0
LeaveOne n [] = n ≡ 1
LeaveOne n (s ∷ ss) = (operands s ≤ n) × LeaveOne (n - operands s + 1) ss

-- expressions one after another
abbrev pub stacked : {P : Type 0} → List (Expr P) → List (Step P)
stacked xs = flat_map (λ x. postfix (term_of x)) xs

-- the number of recursive parts that a step names
abbrev pub part_count : Step AtomWord → ℕ
part_count (steps.Prim words.Part) = 1
part_count _ = 0

abbrev pub parts_in : List (Step AtomWord) → ℕ
parts_in [] = 0
parts_in (s ∷ ss) = part_count s + parts_in ss

-- the steps of one expression, with no configuration, and numbers for its recursive parts
pub record AreAtomSteps (ss : List (Step AtomWord)) (numbers : List ℕ) : Type 0 where
  pub one : LeaveOne 0 ss
  pub parts : parts_in ss ≤ length numbers
  pub plain : list_any is_stereo ss ≡ false

-- an atom's steps are those of one expression, and its recursive parts are those that they name
pub record IsValue (a : AtomValue) : Type 0 where
  pub one : LeaveOne 0 a.steps
  pub parts : parts_in a.steps ≡ length a.parts
