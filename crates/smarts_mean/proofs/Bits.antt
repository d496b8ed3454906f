-- A table by its words of 64: its entries as they are read, and one word written: these entries, and no others.
use Rattle.std.proofs.Common.{eqb, false, replicate, ℕ, ◌+◌, ◌*◌, ◌/◌, ◌%◌, ◌^◌, ◌<◌, ◌≡◌, ◌≢◌, ◌↔◌, inl, inr, List, length, get_or, set, bit_and, ap, sym, ◌∙◌, arith}
use Rattle.std.specs.Int.{bit_at}
use Rattle.std.proofs.lemmas.Bool.{cases_lt, eq-eqb, eqb-true}
use Rattle.std.proofs.lemmas.List.{get_or-set_same, get_or-set_other, get_or_default, get_or-replicate, get_or_past, length-replicate, length-set}
use Rattle.std.proofs.lemmas.Nat.Bits.{bit_at-zero, shr_and_one}
use Rattle.smarts_mean.specs.Table.{HoldsIn, holds_at}

-- what the code computes of a word is the entry
pub entry_read : (words : List ℕ) (part atom word : ℕ) → 16 * part + atom / 64 < length words
    → word ≡ get_or words (16 * part + atom / 64) word → eqb (bit_and (word / 2 ^ (atom % 64)) 1) 1
    ≡ holds_at (record { words = words }) part atom
unfolding holds_at
entry_read words part atom word within is =
    let read : word ≡ get_or words (16 * part + atom / 64) 0 = is
    ∙ get_or_default words (16 * part + atom / 64) word 0 within in
    rw shr_and_one (ap (λ n. eqb (bit_at n (atom % 64)) 1) read)

pub no_entry : (n part atom : ℕ) → holds_at (record { words = replicate n 0 }) part atom ≡ false
unfolding holds_at
no_entry n part atom = elim (cases_lt (16 * part + atom / 64) n) [
  | inl l ↦ rw (get_or-replicate {A = ℕ} n (16 * part + atom / 64) 0 0 l, bit_at-zero)
  | inr past ↦ rw (
    get_or_past {X = ℕ} (replicate n 0) (16 * part + atom / 64) 0
        (rw (length-replicate {A = ℕ} n 0) past),
    bit_at-zero,
  )
]

-- a word of a part's row is its entries for a block of 64 atoms
pub block_read : (words : List ℕ) (part block i word : ℕ) → i < 64 → 16 * part + block < length words
    → word ≡ get_or words (16 * part + block) word
    → bit_at word i ≡ 1 ↔ HoldsIn (record { words = words }) part (64 * block + i)
unfolding holds_at
block_read words part block i word low within is =
    let read : word ≡ get_or words (16 * part + block) 0 = is
    ∙ get_or_default words (16 * part + block) word 0 within in
    let place : 16 * part + (64 * block + i) / 64 ≡ 16 * part + block = omega arith in
    let bit : (64 * block + i) % 64 ≡ i = omega arith in
    let same : bit_at (get_or words (16 * part + (64 * block + i) / 64) 0) ((64 * block + i) % 64) ≡ bit_at word i =
    ap (λ k. bit_at (get_or words k 0) ((64 * block + i) % 64)) place
    ∙ ap (bit_at (get_or words (16 * part + block) 0)) bit ∙ ap (λ w. bit_at w i) (sym read) in
    (λ h. eq-eqb _ 1 (same ∙ h), λ h. sym same ∙ eqb-true _ 1 h)

-- the entries of the block that is written
pub block_here : (words : List ℕ) (part block i word : ℕ) → i < 64 → 16 * part + block < length words
    → HoldsIn (record { words = set words (16 * part + block) word }) part (64 * block + i) ↔ bit_at word i ≡ 1
block_here words part block i word low within =
    let place : ℕ = 16 * part + block in
    let size : length (set words place word) ≡ length words = length-set words place word in
    let both = block_read (set words place word) part block i word low (omega arith)
    (sym (get_or-set_same words place word word within)) in
    (λ h. both.1 h, λ h. both.0 h)

-- and all others
pub block_others : (words : List ℕ) (part block word p a : ℕ) → block < 16 → a < 999
    → (p ≡ part → a / 64 ≡ block → ⊥) → holds_at (record { words = set words (16 * part + block) word }) p a
    ≡ holds_at (record { words = words }) p a
unfolding holds_at
block_others words part block word p a low few out =
    let apart : 16 * p + a / 64 ≢ 16 * part + block = λ e. out (omega arith) (omega arith) in
    ap (λ w. eqb (bit_at w (a % 64)) 1) (get_or-set_other words (16 * part + block) (16 * p + a / 64) word 0 apart)
