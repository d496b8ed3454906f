-- An expression that is read from left to right, in postfix order: for private clauses only.
use Rattle.std.specs.Prelude.{◌≡◌, ◌≢◌, ◌⊎◌, ℕ, Bool, true, false, List, [], ◌∷◌, ◌++◌, replicate}
use Rattle.smarts_words.specs.declared.word.Step.{Step}
use Rattle.smarts_words.specs.declared.word.Step.TheVariants as steps
use Rattle.smarts_words.specs.declared.postfix.Joint.{Joint}
use Rattle.smarts_words.specs.declared.postfix.Joint.TheVariants as joints
use Rattle.smarts_words.specs.declared.postfix.Postfix.{Postfix}
use Rattle.smarts_words.specs.Bonds.{BeginsBond}
use Rattle.smarts_words.specs.Expression.{Joining, semicolon, comma, ampersand, beside, joining_text, joined}

abbrev pub is_some : {X : Type 0} → List X → Bool
is_some [] = false
is_some (x ∷ xs) = true

-- The parts so far: those between `;` that are read, those between `,` after them, and the operands after these
pub record Holds {W : Type 0} (lows ors ands : List (List (Step W))) (p : Postfix W) : Type 0 where
  pub steps : p.steps.items ≡ joined steps.And lows ++ (joined steps.Or ors ++ joined steps.And ands)
  pub in_and : p.in_and ≡ is_some ands
  pub in_or : p.in_or ≡ is_some ors
  pub in_low : p.in_low ≡ is_some lows

-- an operand: a primitive with `bangs` `!` before it
abbrev pub one_operand : {W : Type 0} → ℕ → W → List (Step W)
one_operand bangs word = steps.Prim word ∷ replicate bangs steps.Not

-- a part between `,` and one between `;` that end
abbrev pub ors_ended : {W : Type 0} → List (List (Step W)) → List (List (Step W)) → List (List (Step W))
ors_ended ors ands = ors ++ joined steps.And ands ∷ []

abbrev pub lows_ended : {W : Type 0} → List (List (Step W)) → List (List (Step W)) → List (List (Step W))
    → List (List (Step W))
lows_ended lows ors ands = lows ++ joined steps.Or (ors_ended ors ands) ∷ []

-- the joint of an operand; `&` and being side by side are one
abbrev pub joint_of : Joining → Joint
joint_of semicolon = joints.Semicolon
joint_of comma = joints.Comma
joint_of ampersand = joints.And
joint_of beside = joints.And

-- the joint of the next operand, and the bytes after it; it is empty only if these begin with no `;`, `,` or `&`
pub data JoinsAt (bytes : List ℕ) (joint : Joint) (after : List ℕ) : Type 0 where
  joins : (j : Joining) → joint_of j ≡ joint → bytes ≡ joining_text j ++ after
      → (j ≡ beside → (b : ℕ) (bs : List ℕ) → bytes ≡ b ∷ bs → (b ≢ 59) × (b ≢ 44) × (b ≢ 38))
      → JoinsAt bytes joint after

-- the bytes after an expression in brackets: nothing, `]`, or the `:` of a class
abbrev pub EndsInside : List ℕ → Type 0
EndsInside [] = Unit {0}
EndsInside (b ∷ bs) = (b ≡ 93) ⊎ (b ≡ 58)

-- the bytes after a bond expression: nothing, or a byte that no bond expression goes on with
abbrev pub EndsBond : List ℕ → Type 0
EndsBond [] = Unit {0}
EndsBond (b ∷ bs) = (¬ BeginsBond b) × (b ≢ 59) × (b ≢ 44) × (b ≢ 38)
