-- The bits of a word in turn, the lowest first: the lowest, and the word without it.
use Rattle.std.proofs.Common.{◌≡◌, ◌+◌, ◌*◌, ◌%◌, ◌^◌, ◌<◌, ◌∙◌, ℕ, bit_and, inl, inr, ap, arith, w64}
use Rattle.std.specs.Int.{bit_at, bit_not, trailing_zeros}
use Rattle.std.specs.Int.Count.{trailing_of_zero}
use Rattle.std.proofs.lemmas.Bool.{cases_eq, cases_lt}
use Rattle.std.proofs.lemmas.Nat.Bits.{bit_at-trailing_zeros, bit_at-zero, bit_at_clear_other, bit_at_clear_same}

-- the lowest bit of a word, where there is one
pub lowest_is : (left : ℕ) → left < 2 ^ 64 → trailing_zeros w64 left < 64 → bit_at left (trailing_zeros w64 left) ≡ 1
lowest_is left room low = elim (cases_eq left 0) [
  | inl none ↦ absurd (let all = ap (trailing_zeros w64) none ∙ trailing_of_zero 64 in omega arith)
  | inr some ↦ (bit_at-trailing_zeros w64 left (omega arith) room).1
]

pub lower_none : (left : ℕ) → left < 2 ^ 64 → (i : ℕ) → i < 64 → i < trailing_zeros w64 left → bit_at left i ≡ 0
lower_none left room i l below = elim (cases_eq left 0) [
  | inl none ↦ ap (λ w. bit_at w i) none ∙ bit_at-zero i
  | inr some ↦ (bit_at-trailing_zeros w64 left (omega arith) room).2 i below
]

-- the word without a bit
abbrev pub without : ℕ → ℕ → ℕ
without word bit = bit_and word (bit_not w64 (1 * 2 ^ bit % 2 ^ 64))

pub other_bit : (word bit i : ℕ) → bit < 64 → bit_at (without word bit) i ≡ 1 → i ≡ bit → ⊥
other_bit word bit i low t e =
    let zero' = ap (bit_at (without word bit)) e ∙ bit_at_clear_same w64 word bit low in
    omega arith

-- one more is done
pub done_more : (left n : ℕ) → left < 2 ^ 64 → trailing_zeros w64 left < 64
    → ((i : ℕ) → i < n → i < 64 → bit_at left i ≡ 0) → (i : ℕ) → i < n + 1 → i < 64
    → bit_at (without left (trailing_zeros w64 left)) i ≡ 0
done_more left n room low done i l few =
    let bit : ℕ = trailing_zeros w64 left in
    elim (cases_eq i bit) [
      | inl e ↦ ap (bit_at (without left bit)) e ∙ bit_at_clear_same w64 left bit low
      | inr apart ↦ bit_at_clear_other w64 left bit low i few apart ∙ elim (cases_lt i bit) [
        | inl below ↦ lower_none left room i few below
        | inr above ↦
            let zero' = done bit (omega arith) low in
            let one = lowest_is left room low in
            absurd (omega arith)
      ]
    ]
