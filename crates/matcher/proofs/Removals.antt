-- Candidates of which one is taken away.
use Rattle.std.proofs.Common.{◌≡◌, ◌∙◌, ◌+◌, ◌*◌, ◌/◌, ◌%◌, ◌^◌, ◌<◌, ℕ, List, ap, arith, bit_and, inl, inr, length, set, slice_index, subst, sym, w64}
use Rattle.std.specs.Int.{bit_at, bit_not}
use Rattle.std.proofs.lemmas.Bool.{cases_eq}
use Rattle.std.proofs.lemmas.List.{get_or-set_other, get_or-set_same}
use Rattle.std.proofs.lemmas.Nat.Bits.{bit_at-lt, bit_at_and, bit_at_clear_other}
use Rattle.matcher.specs.Candidates.{IsCandidate}

-- the word without the bit of the atom
abbrev cleared : ℕ → ℕ → ℕ
cleared word atom = bit_and word (bit_not w64 (1 * 2 ^ (atom % 64) % 2 ^ 64))

-- at the word of the place, and at another
module _ (words : List ℕ) (block place atom word : ℕ) (here : block ≡ atom / 64)
    (room : 256 * block + place < length words) (is : word ≡ slice_index words (256 * block + place)) where
  abbrev new : List ℕ
  new = set words (256 * block + place) (cleared word atom)

  read_other : (k : ℕ) → (k ≡ 256 * block + place → ⊥) → slice_index new k ≡ slice_index words k
  read_other k apart = get_or-set_other words (256 * block + place) k (cleared word atom) 0 apart

  read_same : (k : ℕ) → k ≡ 256 * block + place → slice_index new k ≡ cleared word atom
  read_same k same = ap (λ j. slice_index new j) same
      ∙ get_or-set_same words (256 * block + place) (cleared word atom) 0 room

  pub others_kept : (p a : ℕ) → place < 256 → p < 256 → (p ≡ place → a ≡ atom → ⊥) → IsCandidate words p a
      → IsCandidate new p a
  others_kept p a few low other h =
      let k = 256 * (a / 64) + p in
      elim (cases_eq k (256 * block + place)) [
        | inl same ↦
            let old : slice_index words k ≡ word = ap (λ j. slice_index words j) same ∙ sym is in
            let apart : a % 64 ≡ atom % 64 → ⊥ = λ e. other (omega arith) (omega arith) in
            subst (λ x. bit_at x (a % 64) ≡ 1) (sym (read_same k same))
            (bit_at_clear_other w64 word (atom % 64) (omega arith) (a % 64) (omega arith) apart
            ∙ subst (λ x. bit_at x (a % 64) ≡ 1) old h)
        | inr apart ↦ subst (λ x. bit_at x (a % 64) ≡ 1) (sym (read_other k apart)) h
      ]

  pub fewer_left : (p a : ℕ) → IsCandidate new p a → IsCandidate words p a
  fewer_left p a h =
      let k = 256 * (a / 64) + p in
      elim (cases_eq k (256 * block + place)) [
        | inl same ↦
            let old : slice_index words k ≡ word = ap (λ j. slice_index words j) same ∙ sym is in
            let left : bit_at (cleared word atom) (a % 64) ≡ 1 = subst (λ x. bit_at x (a % 64) ≡ 1)
            (read_same k same) h in
            let both = bit_at_and word (bit_not w64 (1 * 2 ^ (atom % 64) % 2 ^ 64)) (a % 64) in
            let one = bit_at-lt word (a % 64) in
            subst (λ x. bit_at x (a % 64) ≡ 1) (sym old) (omega arith)
        | inr apart ↦ subst (λ x. bit_at x (a % 64) ≡ 1) (read_other k apart) h
      ]
