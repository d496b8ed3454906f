-- The bits of a print and its words: a bit by its place, one more bit set, and when each bit of one is in another.
use Rattle.std.proofs.Common.{ℕ, suc, ◌+◌, ◌-◌, ◌*◌, ◌/◌, ◌%◌, ◌^◌, ◌<◌, ◌≤◌, ◌≡◌, ◌≢◌, ◌↔◌, inl, inr, true, false, eqb, min, max, w64, replicate, List, [], ◌∷◌, length, get_or, set, bit_and, bit_or, refl, sym, ap, ◌∙◌, arith, zero-add}
use Rattle.std.specs.Int.{bit_at, bit_not}
use Rattle.std.proofs.lemmas.Bool.{cases_lt, cases_eq, false≢true}
use Rattle.std.proofs.lemmas.Bool.Decides.{nat_tests}
use Rattle.std.proofs.lemmas.List.{length-append, length-set, get_or_append_left, get_or-append_right, get_or-set_same, get_or-set_other, get_or_past, get_or-replicate, length-replicate, ext_get_or}
use Rattle.std.proofs.lemmas.List.FromFn.{get_or-map-range_with_len}
use Rattle.std.proofs.lemmas.Nat.Bits.{bit_at-zero, bit_at-lt, bit_at_above, bit_at_and, bit_at_set_same, bit_at_or, bit_at_not, bit_at_set_other, shr_and_one, same_from_bits}
use Rattle.chem_core.specs.Bits.{HasBit}
use Rattle.chem_core.specs.Words.{word_bits, bits_of}

pub length-word_bits : (word : ℕ) → length (word_bits word) ≡ 64
unfolding word_bits
length-word_bits word = refl

pub word_bits-at : (word k : ℕ) → k < 64 → get_or (word_bits word) k false ≡ eqb (bit_at word k) 1
unfolding word_bits
word_bits-at word k h = get_or-map-range_with_len (λ k. eqb (bit_at word k) 1) 0 64 k k false h (zero-add k)

pub length-bits_of : (words : List ℕ) → length (bits_of words) ≡ 64 * length words
length-bits_of [] = refl
length-bits_of (w ∷ ws) = rw (length-append, length-word_bits) (omega (arith, length-bits_of ws))

-- a bit of a print by its place in its word
pub bits_of-at : (words : List ℕ) (k : ℕ) → get_or (bits_of words) k false
    ≡ eqb (bit_at (get_or words (k / 64) 0) (k % 64)) 1
bits_of-at [] k = rw bit_at-zero
bits_of-at (w ∷ ws) k =
    let len = length-word_bits w in
    elim (cases_lt k 64) [
      | inl l ↦
          let row : k / 64 ≡ 0 = omega arith in
          let col : k % 64 ≡ k = omega arith in
          let low : k < length (word_bits w) = omega arith in
          rw (get_or_append_left (word_bits w) (bits_of ws) false k low, row, col) (word_bits-at w k l)
      | inr l ↦
          let row : k / 64 ≡ suc ((k - 64) / 64) = omega arith in
          let col : k % 64 ≡ (k - 64) % 64 = omega arith in
          rw (get_or-append_right (word_bits w) (bits_of ws) 64 k false len l, row, col) (bits_of-at ws (k - 64))
    ]

-- what the code computes of a word is the bit
pub bit_read : (words : List ℕ) (bit word : ℕ) → word ≡ get_or words (bit / 64) 0
    → eqb (bit_and (word / 2 ^ (bit % 64)) 1) 1 ≡ get_or (bits_of words) bit false
bit_read words bit word is = rw (shr_and_one, is) (sym (bits_of-at words bit))

-- no bit lies past the last word
pub bit_past : (words : List ℕ) (bit : ℕ) → length words ≤ bit / 64 → get_or (bits_of words) bit false ≡ false
bit_past words bit past = bits_of-at words bit ∙ rw (get_or_past words (bit / 64) 0 past, bit_at-zero)

-- no bit of zeros is set
pub no_bit : (n bit : ℕ) → get_or (bits_of (replicate n 0)) bit false ≡ false
no_bit n bit =
    let zeros : List ℕ = replicate n 0 in
    let zero : get_or zeros (bit / 64) 0 ≡ 0 = elim (cases_lt (bit / 64) n) [
      | inl l ↦ get_or-replicate n (bit / 64) 0 0 l
      | inr past ↦ get_or_past zeros (bit / 64) 0 (rw length-replicate past)
    ] in
    bits_of-at zeros bit ∙ rw (zero, bit_at-zero)

-- a list of words with one more bit set
pub bits_of-set : (words : List ℕ) (bit : ℕ) → bit / 64 < length words
    → bits_of (set words (bit / 64) (bit_or (get_or words (bit / 64) 0) (1 * 2 ^ (bit % 64) % 2 ^ 64)))
    ≡ set (bits_of words) bit true
bits_of-set words bit within =
    let word : ℕ = bit_or (get_or words (bit / 64) 0) (1 * 2 ^ (bit % 64) % 2 ^ 64) in
    let after : List ℕ = set words (bit / 64) word in
    let len : length (bits_of after) ≡ length (set (bits_of words) bit true) = length-bits_of after
    ∙ ap (λ n. 64 * n) (length-set words (bit / 64) word) ∙ sym (length-bits_of words)
    ∙ sym (length-set (bits_of words) bit true) in
    let there : bit < length (bits_of words) = rw length-bits_of (omega arith) in
    let low : bit % 64 < 64 = omega arith in
    ext_get_or false _ _ len (λ k _. elim (cases_eq k bit) [
      | inl e ↦
          let read : get_or after (k / 64) 0 ≡ word = rw e (get_or-set_same words (bit / 64) word 0 within) in
          let now : get_or (bits_of after) k false ≡ true = bits_of-at after k
          ∙ rw (read, e, bit_at_set_same w64 (get_or words (bit / 64) 0) (bit % 64) low) in
          now ∙ sym (rw e (get_or-set_same (bits_of words) bit true false there))
      | inr n ↦
          let kept : get_or (set (bits_of words) bit true) k false ≡ get_or (bits_of words) k false =
          get_or-set_other (bits_of words) bit k true false n in
          let same : bit_at (get_or after (k / 64) 0) (k % 64) ≡ bit_at (get_or words (k / 64) 0) (k % 64) =
          elim (cases_eq (k / 64) (bit / 64)) [
            | inl row ↦
                let col : k % 64 ≢ bit % 64 = λ q. n (omega arith) in
                let read : get_or after (k / 64) 0 ≡ word = rw row (get_or-set_same words (bit / 64) word 0 within) in
                rw (read, row) (bit_at_set_other w64 (get_or words (bit / 64) 0) (bit % 64) low (k % 64) col)
            | inr row ↦ rw (get_or-set_other words (bit / 64) (k / 64) word 0 row)
          ] in
          bits_of-at after k ∙ ap (λ b. eqb b 1) same ∙ sym (bits_of-at words k) ∙ sym kept
    ])

pub eqb-one : (n : ℕ) → eqb n 1 ≡ true → n ≡ 1
eqb-one n h = grind (arith, nat_tests)

-- each bit of one is in the other exactly where each word has the other's
pub bits_from_words : (have want : List ℕ) → ((k : ℕ) → k < length want → bit_and (get_or have k 0) (get_or want k 0)
    ≡ get_or want k 0) → (bit : ℕ) → HasBit (bits_of want) bit → HasBit (bits_of have) bit
bits_from_words have want each bit h =
    let i : ℕ = bit / 64 in
    let j : ℕ = bit % 64 in
    let one : bit_at (get_or want i 0) j ≡ 1 = eqb-one _ (sym (bits_of-at want bit) ∙ h) in
    elim (cases_lt i (length want)) [
      | inl within ↦
          let both : bit_at (bit_and (get_or have i 0) (get_or want i 0)) j ≡ min (bit_at (get_or have i 0) j)
          (bit_at (get_or want i 0) j) = bit_at_and _ _ j in
          let joined : bit_at (bit_and (get_or have i 0) (get_or want i 0)) j ≡ 1 = rw (each i within) one in
          let small = bit_at-lt (get_or have i 0) j in
          let set : bit_at (get_or have i 0) j ≡ 1 = omega arith in
          bits_of-at have bit ∙ rw set
      | inr past ↦ absurd (false≢true (sym (bit_past want bit past) ∙ h))
    ]

pub words_from_bits : (have want : List ℕ) → ((k : ℕ) → k < length want → get_or want k 0 < 2 ^ 64)
    → ((bit : ℕ) → HasBit (bits_of want) bit → HasBit (bits_of have) bit) → (k : ℕ) → k < length want
    → bit_and (get_or have k 0) (get_or want k 0) ≡ get_or want k 0
words_from_bits have want fit h k within =
    same_from_bits _ _ (λ i. bit_at_and (get_or have k 0) (get_or want k 0) i ∙ elim (cases_lt i 64) [
      | inl low ↦
          let row : (64 * k + i) / 64 ≡ k = omega arith in
          let col : (64 * k + i) % 64 ≡ i = omega arith in
          let mine : get_or (bits_of want) (64 * k + i) false ≡ eqb (bit_at (get_or want k 0) i) 1 =
          rw (bits_of-at, row, col) in
          let its : get_or (bits_of have) (64 * k + i) false ≡ eqb (bit_at (get_or have k 0) i) 1 =
          rw (bits_of-at, row, col) in
          let small = bit_at-lt (get_or want k 0) i in
          elim (cases_eq (bit_at (get_or want k 0) i) 1) [
            | inl one ↦
                let set : bit_at (get_or have k 0) i ≡ 1 = eqb-one _ (sym its ∙ h (64 * k + i) (mine ∙ rw one)) in
                omega arith
            | inr other ↦ omega arith
          ]
      | inr high ↦
          let none = bit_at_above (get_or want k 0) 64 i (fit k within) high in
          omega arith
    ])

-- no bit of a word is lacked by another exactly where the other has all its bits
pub lacks-none : (have want : ℕ) → have < 2 ^ 64 → want < 2 ^ 64
    → bit_and want (bit_not w64 have) ≡ 0 ↔ bit_and have want ≡ want
lacks-none have want fits fit =
    let lacked : (i : ℕ) → i < 64 → bit_at (bit_and want (bit_not w64 have)) i
    ≡ min (bit_at want i) (1 - bit_at have i) = λ i low.
    bit_at_and want (bit_not w64 have) i ∙ ap (λ b. min (bit_at want i) b) (bit_at_not w64 have i fits low) in
    let above : (i : ℕ) → 64 ≤ i → bit_at want i ≡ 0 = λ i high. bit_at_above want 64 i fit high in (
      λ none. same_from_bits _ _ (λ i. bit_at_and have want i ∙ elim (cases_lt i 64) [
        | inl low ↦
            let zero : bit_at (bit_and want (bit_not w64 have)) i ≡ 0 = ap (λ n. bit_at n i) none ∙ bit_at-zero i in
            omega (arith, lacked i low, bit_at-lt have i, bit_at-lt want i)
        | inr high ↦ omega (arith, above i high)
      ]),
      λ all. same_from_bits _ _ (λ i. elim (cases_lt i 64) [
        | inl low ↦
            let both : min (bit_at have i) (bit_at want i) ≡ bit_at want i =
            sym (bit_at_and have want i) ∙ ap (λ n. bit_at n i) all in
            lacked i low ∙ omega (arith, bit_at-lt have i, bit_at-lt want i) ∙ sym (bit_at-zero i)
        | inr high ↦
            bit_at_and want (bit_not w64 have) i ∙ omega (arith, above i high) ∙ sym (bit_at-zero i)
      ]),
    )

-- two words have no bit exactly where their union has none
none-in-both : (a b : ℕ) → bit_or a b ≡ 0 ↔ (a ≡ 0) × (b ≡ 0)
none-in-both a b = (
  λ none.
      let bits : (i : ℕ) → max (bit_at a i) (bit_at b i) ≡ 0 = λ i.
      sym (bit_at_or a b i) ∙ ap (λ n. bit_at n i) none ∙ bit_at-zero i in (
        same_from_bits a 0 (λ i. omega (arith, bits i) ∙ sym (bit_at-zero i)),
        same_from_bits b 0 (λ i. omega (arith, bits i) ∙ sym (bit_at-zero i)),
      ),
  λ none. rw (none.0, none.1) refl,
)

-- the same, with what it says of each that it has none
pub both-lack-none : {P Q : Type 0} (a b : ℕ) → a ≡ 0 ↔ P → b ≡ 0 ↔ Q → bit_or a b ≡ 0 ↔ P × Q
both-lack-none a b left right = (
  λ none.
      let each = (none-in-both a b).0 none in
      (left.0 each.0, right.0 each.1),
  λ each. (none-in-both a b).1 (left.1 each.0, right.1 each.1),
)
