-- A text has one reading.
use Rattle.std.proofs.Common.{◌≡◌, ℕ, ◌<◌, ◌≤◌, ◌⊎◌, inl, inr, List, length, Result, Ok, Err, refl, sym, ◌∙◌, ap, arith}
use Rattle.chem_core.specs.Sketch.{SketchTerm}
use Rattle.molfile_read.specs.declared.fault.MolfileFault.{MolfileFault}
use Rattle.molfile_read.specs.declared.fault.MolfileFault.TheVariants.{Header, Columns, Bond, Query, Limit, Cut, NoMemory}
use Rattle.molfile_read.specs.Text.{numbered_lines}
use Rattle.molfile_read.specs.Reading.{drawn, HasFewNeighbours, IsReading}
use Rattle.std.specs.Result.{IsErrAnd}
use Rattle.molfile_read.proofs.NeverLimit.{never_limit}

abbrev Answer : Type 0
Answer = Result SketchTerm MolfileFault

abbrev IsTooMuch : List ℕ → Type 0
IsTooMuch text = (262144 < length text) ⊎ ((s : SketchTerm) × (drawn (numbered_lines text) ≡ Ok s)
    × ¬ HasFewNeighbours s)

abbrev IsFew : Answer → Type 0
IsFew (Ok s) = HasFewNeighbours s
IsFew (Err fault) = Unit {0}

-- an answer is want of memory, or a limit, or what the lines say
known : (text : List ℕ) (r : Answer) → IsReading text r → (r ≡ Err NoMemory)
    ⊎ (((r ≡ Err Limit) × IsTooMuch text) ⊎ ((length text ≤ 262144) × (drawn (numbered_lines text) ≡ r) × IsFew r))
known text (Ok s) h = inr (inr (h.0, h.1, h.2))
known text (Err Limit) h = inr (inl (refl, h))
known text (Err NoMemory) h = inl refl
known text (Err Header) h = inr (inr (h.0, h.1, tt))
known text (Err (Columns n)) h = inr (inr (h.0, h.1, tt))
known text (Err (Bond n)) h = inr (inr (h.0, h.1, tt))
known text (Err (Query n)) h = inr (inr (h.0, h.1, tt))
known text (Err Cut) h = inr (inr (h.0, h.1, tt))

few_of : (r : Answer) (s : SketchTerm) → r ≡ Ok s → IsFew r → HasFewNeighbours s
few_of (Ok t) s e h = let p : t ≡ s = cc in λ a. rw (← p) (h a)
few_of (Err f) s e h = absurd (cc)

apart : (text : List ℕ) (r : Answer) → IsTooMuch text → length text ≤ 262144 → drawn (numbered_lines text) ≡ r → IsFew r
    → ⊥
apart text r (inl long) le e few = omega arith
apart text r (inr p) le e few = p.2 (few_of r p.0 (sym e ∙ p.1) few)

pub one : (text : List ℕ) (a b : Answer) → IsReading text a → IsReading text b → (a ≡ b)
    ⊎ ((a ≡ Err NoMemory) ⊎ (b ≡ Err NoMemory))
one text a b h k = elim (known text a h) [
  | inl e ↦ inr (inl e)
  | inr p ↦ elim (known text b k) [
    | inl e ↦ inr (inr e)
    | inr q ↦ elim p [
      | inl x ↦ elim q [
        | inl y ↦ inl (x.0 ∙ sym y.0)
        | inr y ↦ absurd (apart text b x.1 y.0 y.1 y.2)
      ]
      | inr x ↦ elim q [
        | inl y ↦ absurd (apart text a y.1 x.0 x.1 x.2)
        | inr y ↦ inl (sym x.1 ∙ y.1)
      ]
    ]
  ]
]

-- a fault of the lines is the answer
fault_reading : (text : List ℕ) (f : MolfileFault) → length text ≤ 262144 → (f ≡ NoMemory)
    ⊎ (drawn (numbered_lines text) ≡ Err f) → IsReading text (Err f)
fault_reading text NoMemory le h = tt
fault_reading text Limit le (inl h) = absurd (cc)
fault_reading text Limit le (inr h) = absurd (never_limit (numbered_lines text) h)
fault_reading text Header le (inl h) = absurd (cc)
fault_reading text Header le (inr h) = (le, h)
fault_reading text (Columns n) le (inl h) = absurd (cc)
fault_reading text (Columns n) le (inr h) = (le, h)
fault_reading text (Bond n) le (inl h) = absurd (cc)
fault_reading text (Bond n) le (inr h) = (le, h)
fault_reading text (Query n) le (inl h) = absurd (cc)
fault_reading text (Query n) le (inr h) = (le, h)
fault_reading text Cut le (inl h) = absurd (cc)
fault_reading text Cut le (inr h) = (le, h)

pub fault_handed : (text : List ℕ) (r : Answer) (e : MolfileFault) → length text ≤ 262144 → IsErrAnd r (λ f. f ≡ e)
    → (e ≡ NoMemory) ⊎ (drawn (numbered_lines text) ≡ Err e) → IsReading text r
fault_handed text (Ok s) e le h k = absurd h
fault_handed text (Err f) e le h (inl k) = fault_reading text f le (inl (h ∙ k))
fault_handed text (Err f) e le h (inr k) = fault_reading text f le (inr (k ∙ ap (λ x. Err x) (sym h)))
