-- How many bits two prints share, word by word, and the bits of a union.
use Rattle.std.proofs.Common.{ℕ, suc, zero, ◌+◌, ◌*◌, ◌++◌, ◌/◌, ◌%◌, ◌^◌, ◌<◌, ◌≡◌, ◌⊎◌, ◌↔◌, ◌&&◌, Bool, cond, eqb, inl, inr, true, false, max, min, List, [], ◌∷◌, length, map, get_or, zip, count_by, count_ones, bit_and, bit_or, refl, sym, ap, ◌∙◌, arith, take}
use Rattle.std.specs.Int.{bit_at}
use Rattle.std.specs.Simd.Lanes.{mask_l}
use Rattle.std.proofs.lemmas.Bool.{cases_lt, cases_eq}
use Rattle.std.proofs.lemmas.List.{get_or_past, take_more, length-take, append-nil}
use Rattle.std.proofs.lemmas.List.Concat.{flat_map-append}
use Rattle.std.proofs.lemmas.List.Sums.{sum_by-append, sum_by-cons}
use Rattle.std.proofs.lemmas.Nat.{and_le_l}
use Rattle.std.proofs.lemmas.Nat.Bits.{bit_at-lt, bit_at_above, bit_at_and, bit_at_or, same_from_bits}
use Rattle.std.proofs.lemmas.Simd.{bit_mask_l, ones-mask_l}
use Rattle.chem_core.specs.Bits.{HasBit, set_bits, shared_bits}
use Rattle.chem_core.specs.Words.{word_bits, bits_of}
use Rattle.chem_core.proofs.Prints.{length-word_bits, word_bits-at, bits_of-at, length-bits_of, eqb-one}

abbrev both : Bool × Bool → Bool
both p = p.0 && p.1

and-false : (b : Bool) → (b && false) ≡ false
and-false true = refl
and-false false = refl

both-at : (xs ys : List Bool) (i : ℕ) → get_or (map both (zip xs ys)) i false
    ≡ (get_or xs i false && get_or ys i false)
both-at [] ys i = refl
both-at (x ∷ xs) [] i = sym (and-false (get_or (x ∷ xs) i false))
both-at (x ∷ xs) (y ∷ ys) zero = refl
both-at (x ∷ xs) (y ∷ ys) (suc i) = both-at xs ys i

-- a bit of a word as a number
word-bit : (word i : ℕ) → word < 2 ^ 64 → bit_at word i ≡ cond (get_or (word_bits word) i false) 1 0
word-bit word i fit =
    let small = bit_at-lt word i in
    elim (cases_lt i 64) [
      | inl low ↦ elim (cases_eq (bit_at word i) 1) [
        | inl one ↦ one ∙ sym (rw (word_bits-at word i low, one))
        | inr other ↦
            let none : bit_at word i ≡ 0 = omega arith in
            none ∙ sym (rw (word_bits-at word i low, none))
      ]
      | inr high ↦
          let none : bit_at word i ≡ 0 = bit_at_above word 64 i fit high in
          let past : get_or (word_bits word) i false ≡ false =
          get_or_past (word_bits word) i false (rw length-word_bits high) in
          none ∙ sym (ap (λ b. cond b 1 0) past)
    ]

min-both : (a b : Bool) → min (cond a 1 0) (cond b 1 0) ≡ cond (a && b) 1 0
min-both true true = refl
min-both true false = refl
min-both false true = refl
min-both false false = refl

-- how many bits two words share
pub shared-word : (a b : ℕ) → a < 2 ^ 64 → b < 2 ^ 64 → count_ones (bit_and a b)
    ≡ shared_bits (word_bits a) (word_bits b)
shared-word a b fit its =
    let pairs : List (Bool × Bool) = zip (word_bits a) (word_bits b) in
    let same : bit_and a b ≡ mask_l (map both pairs) = same_from_bits _ _ (λ i. bit_at_and a b i
    ∙ (ap (λ n. min n (bit_at b i)) (word-bit a i fit)
    ∙ (ap (λ n. min (cond (get_or (word_bits a) i false) 1 0) n) (word-bit b i its)
    ∙ (min-both (get_or (word_bits a) i false) (get_or (word_bits b) i false)
    ∙ (ap (λ t. cond t 1 0) (sym (both-at (word_bits a) (word_bits b) i)) ∙ sym (bit_mask_l (map both pairs) i)))))) in
    ap count_ones same ∙ ones-mask_l both pairs

zip-append : (xs ys more its : List Bool) → length xs ≡ length ys → zip (xs ++ more) (ys ++ its)
    ≡ zip xs ys ++ zip more its
zip-append [] [] more its e = refl
zip-append [] (y ∷ ys) more its e = absurd (omega (arith, e))
zip-append (x ∷ xs) [] more its e = absurd (omega (arith, e))
zip-append (x ∷ xs) (y ∷ ys) more its e = ap (λ l. (x, y) ∷ l) (zip-append xs ys more its (omega (arith, e)))

shared-append : (xs ys more its : List Bool) → length xs ≡ length ys → shared_bits (xs ++ more) (ys ++ its)
    ≡ shared_bits xs ys + shared_bits more its
shared-append xs ys more its e =
    ap (count_by both) (zip-append xs ys more its e)
    ∙ sum_by-append (λ p. cond (both p) 1 0) (zip xs ys) (zip more its)

bits_of-push : (words : List ℕ) (word : ℕ) → bits_of (words ++ word ∷ []) ≡ bits_of words ++ word_bits word
bits_of-push words word = flat_map-append word_bits words (word ∷ [])
    ∙ ap (λ l. bits_of words ++ l) (append-nil (word_bits word))

taken : (left right : List ℕ) (i : ℕ) → length left ≡ length right
    → length (bits_of (take i left)) ≡ length (bits_of (take i right))
taken left right i same =
    length-bits_of (take i left) ∙ (ap (λ n. 64 * n) (length-take i left ∙ (ap (min i) same ∙ sym (length-take i right)))
    ∙ sym (length-bits_of (take i right)))

-- one word more
pub shared-more : (left right : List ℕ) (i : ℕ) → length left ≡ length right → i < length left
    → get_or left i 0 < 2 ^ 64 → get_or right i 0 < 2 ^ 64
    → shared_bits (bits_of (take i left)) (bits_of (take i right)) + count_ones (bit_and (get_or left i 0) (get_or right i 0))
    ≡ shared_bits (bits_of (take (i + 1) left)) (bits_of (take (i + 1) right))
shared-more left right i same within fit its =
    let a : ℕ = get_or left i 0 in
    let b : ℕ = get_or right i 0 in
    let other : i < length right = omega (arith, same, within) in
    let one : bits_of (take (i + 1) left) ≡ bits_of (take i left) ++ word_bits a =
    ap bits_of (take_more left i 0 within) ∙ bits_of-push (take i left) a in
    let two : bits_of (take (i + 1) right) ≡ bits_of (take i right) ++ word_bits b =
    ap bits_of (take_more right i 0 other) ∙ bits_of-push (take i right) b in
    ap (λ n. shared_bits (bits_of (take i left)) (bits_of (take i right)) + n) (shared-word a b fit its)
    ∙ (sym (shared-append (bits_of (take i left)) (bits_of (take i right)) (word_bits a) (word_bits b) (taken left right i same))
    ∙ (λ k. shared_bits ((sym one) k) ((sym two) k)))

pub and-fits : (a b : ℕ) → a < 2 ^ 64 → bit_and a b < 2 ^ 64
and-fits a b fit = omega (arith, and_le_l a b, fit)

and-self : (b : Bool) → (b && b) ≡ b
and-self true = refl
and-self false = refl

-- a print shares all its bits with itself
pub shared-self : (xs : List Bool) → shared_bits xs xs ≡ set_bits xs
shared-self [] = refl
shared-self (x ∷ xs) =
    sum_by-cons (λ p. cond (both p) 1 0) (x, x) (zip xs xs)
    ∙ (ap (λ b. cond b 1 0 + shared_bits xs xs) (and-self x) ∙ (ap (λ n. cond x 1 0 + n) (shared-self xs)
    ∙ sym (sum_by-cons (λ (b : Bool). cond b 1 0) x xs)))

set-at : (words : List ℕ) (bit : ℕ) → bit_at (get_or words (bit / 64) 0) (bit % 64) ≡ 1 → HasBit (bits_of words) bit
set-at words bit one = bits_of-at words bit ∙ ap (λ n. eqb n 1) one

one-at : (words : List ℕ) (bit : ℕ) → HasBit (bits_of words) bit → bit_at (get_or words (bit / 64) 0) (bit % 64) ≡ 1
one-at words bit has = eqb-one _ (sym (bits_of-at words bit) ∙ has)

joined-at : (old new more : List ℕ) → length new ≡ length old → length old ≡ length more
    → ((k : ℕ) → k < length old → get_or new k 0 ≡ bit_or (get_or old k 0) (get_or more k 0)) → (k : ℕ)
    → get_or new k 0 ≡ bit_or (get_or old k 0) (get_or more k 0)
joined-at old new more same long each k =
    elim (cases_lt k (length old)) [
      | inl within ↦ each k within
      | inr past ↦
          let none : get_or new k 0 ≡ 0 = get_or_past new k 0 (omega (arith, same, past)) in
          let left : get_or old k 0 ≡ 0 = get_or_past old k 0 past in
          let right : get_or more k 0 ≡ 0 = get_or_past more k 0 (omega (arith, long, past)) in
          rw (none, left, right) refl
    ]

-- the bits of a union
pub united : (old new more : List ℕ) → length new ≡ length old → length old ≡ length more
    → ((k : ℕ) → k < length old → get_or new k 0 ≡ bit_or (get_or old k 0) (get_or more k 0)) → (bit : ℕ)
    → HasBit (bits_of new) bit ↔ (HasBit (bits_of old) bit ⊎ HasBit (bits_of more) bit)
united old new more same long each bit =
    let i : ℕ = bit / 64 in
    let j : ℕ = bit % 64 in
    let joined : bit_at (get_or new i 0) j ≡ max (bit_at (get_or old i 0) j) (bit_at (get_or more i 0) j) =
    ap (λ n. bit_at n j) (joined-at old new more same long each i) ∙ bit_at_or (get_or old i 0) (get_or more i 0) j in
    let small = bit_at-lt (get_or old i 0) j in
    let little = bit_at-lt (get_or more i 0) j in (
      λ has. let one = one-at new bit has in elim (cases_eq (bit_at (get_or old i 0) j) 1) [
        | inl mine ↦ inl (set-at old bit mine)
        | inr other ↦ inr (set-at more bit (omega (arith, joined, one, other)))
      ],
      λ has. set-at new bit (elim has [
        | inl mine ↦ let one = one-at old bit mine in omega (arith, joined, one)
        | inr its ↦ let one = one-at more bit its in omega (arith, joined, one)
      ]),
    )
