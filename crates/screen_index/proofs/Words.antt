-- Bits of words: one more, one less, and those that are in two words.
use Rattle.std.proofs.Common.{◌≡◌, ◌≢◌, ◌*◌, ◌/◌, ◌%◌, ◌^◌, ◌<◌, ◌≤◌, ◌∙◌, ap, arith, Bool, false, get_or, inl, inr, length, List, refl, set, sym, true, bit_and, w64, ℕ}
use Rattle.std.specs.Int.{bit_at, bit_not, trailing_zeros}
use Rattle.std.proofs.lemmas.Bool.{cases_eq, cases_lt}
use Rattle.std.proofs.lemmas.List.{get_or-set_other, get_or-set_same, get_or_past}
use Rattle.std.proofs.lemmas.Nat.{and_le_l}
use Rattle.std.proofs.lemmas.Nat.Bits.{bit_at-lt, bit_at-trailing_zeros, bit_at-zero, bit_at_and, bit_at_clear_other, bit_at_clear_same}
use Rattle.chem_core.proofs.Prints.{bits_of-at, eqb-one}
use Rattle.chem_core.specs.Bits.{HasBit}
use Rattle.chem_core.specs.Words.{bits_of}

-- a bit by its place in its word
pub to-word : (ws : List ℕ) (k : ℕ) → HasBit (bits_of ws) k → bit_at (get_or ws (k / 64) 0) (k % 64) ≡ 1
to-word ws k h = eqb-one _ (sym (bits_of-at ws k) ∙ h)

pub from-word : (ws : List ℕ) (k : ℕ) → bit_at (get_or ws (k / 64) 0) (k % 64) ≡ 1 → HasBit (bits_of ws) k
from-word ws k h = bits_of-at ws k ∙ rw h refl

-- no bit is behind the last word
pub within-words : (ws : List ℕ) (k : ℕ) → HasBit (bits_of ws) k → k < 64 * length ws
within-words ws k h =
    elim (cases_lt (k / 64) (length ws)) [
      | inl l ↦ omega (arith, l)
      | inr past ↦
          let one = to-word ws k h in
          let none : bit_at (get_or ws (k / 64) 0) (k % 64) ≡ 0 =
          ap (λ n. bit_at n (k % 64)) (get_or_past ws (k / 64) 0 past) ∙ bit_at-zero (k % 64) in
          absurd (omega (arith, one, none))
    ]

-- a bit that is set once more leaves the others
pub set-keeps : (bs : List Bool) (k bit : ℕ) → k < length bs → HasBit bs bit → HasBit (set bs k true) bit
set-keeps bs k bit within h =
    elim (cases_eq bit k) [
      | inl e ↦ ap (λ n. get_or (set bs k true) n false) e ∙ get_or-set_same bs k true false within
      | inr n ↦ get_or-set_other bs k bit true false n ∙ h
    ]

pub set-has : (bs : List Bool) (k : ℕ) → k < length bs → HasBit (set bs k true) k
set-has bs k within = get_or-set_same bs k true false within

-- a word without its lowest bit
abbrev pub rest_of : ℕ → ℕ
rest_of n = bit_and n (bit_not w64 (1 * 2 ^ trailing_zeros w64 n % 2 ^ 64))

pub lowest-in : (n : ℕ) → 0 < n → n < 2 ^ 64 → (trailing_zeros w64 n < 64) × (bit_at n (trailing_zeros w64 n) ≡ 1)
lowest-in n some fits = let low = bit_at-trailing_zeros w64 n some fits in (low.0, low.1)

pub rest-less : (n : ℕ) → 0 < n → n < 2 ^ 64 → rest_of n < n
rest-less n some fits =
    let t = trailing_zeros w64 n in
    let low = lowest-in n some fits in
    let none : bit_at (rest_of n) t ≡ 0 = bit_at_clear_same w64 n t low.0 in
    let most : rest_of n ≤ n = and_le_l n (bit_not w64 (1 * 2 ^ t % 2 ^ 64)) in
    elim (cases_lt (rest_of n) n) [
      | inl l ↦ l
      | inr ge ↦
          let same : rest_of n ≡ n = omega (arith, most, ge) in
          let both : bit_at (rest_of n) t ≡ bit_at n t = ap (λ m. bit_at m t) same in
          absurd (omega (arith, none, low.1, both))
    ]

pub rest-only : (n i : ℕ) → bit_at (rest_of n) i ≡ 1 → bit_at n i ≡ 1
rest-only n i h =
    let less = bit_not w64 (1 * 2 ^ trailing_zeros w64 n % 2 ^ 64) in
    omega (arith, h, bit_at_and n less i, bit_at-lt n i)

pub rest-others : (n i : ℕ) → 0 < n → n < 2 ^ 64 → i < 64 → i ≢ trailing_zeros w64 n → bit_at (rest_of n) i ≡ bit_at n i
rest-others n i some fits low other =
    bit_at_clear_other w64 n (trailing_zeros w64 n) (lowest-in n some fits).0 i low other
