-- The ones of a word: different places of a word that have one are no more than its ones.
use Rattle.std.proofs.Common.{◌≡◌, ◌≢◌, ℕ, zero, suc, ◌+◌, ◌*◌, ◌/◌, ◌%◌, ◌^◌, ◌<◌, ◌≤◌, ◌==◌, Bool, true, false, List, [], ◌∷◌, length, take, replicate, get_or, cond, All, AllPairs, refl, sym, ap, ◌∙◌, subst, arith, inl, inr}
use Rattle.std.specs.Int.{bit_at}
use Rattle.std.specs.Prelude.{count_ones}
use Rattle.std.proofs.Math.Nat.{pow-suc}
use Rattle.std.proofs.Math.Seq.{take-length}
use Rattle.std.proofs.lemmas.Bool.{cases_lt, eq-eqb, eqb-true}
use Rattle.std.proofs.lemmas.List.{length-replicate}
use Rattle.std.proofs.lemmas.Nat.{ones_cat, zero_from_ones}
use Rattle.std.proofs.lemmas.Nat.Bits.{bit_at-suc, bit_at_above, bit_at_lowest}
use Rattle.matcher.proofs.Pigeons.{marks, marks_cons, pigeons}

below_power : (n : ℕ) → n < 2 ^ n
below_power zero = omega arith
below_power (suc n) = let more = pow-suc 2 n in let before = below_power n in omega arith

-- the lowest digits of a number, the lowest first
digits : ℕ → ℕ → List Bool
digits zero w = []
digits (suc d) w = (w % 2 == 1) ∷ digits d (w / 2)

length-digits : (d w : ℕ) → length (digits d w) ≡ d
unfolding digits
length-digits zero w = refl
length-digits (suc d) w = let rest = length-digits d (w / 2) in omega arith

digits-at : (d w i : ℕ) → i < d → bit_at w i ≡ 1 → get_or (digits d w) i false ≡ true
unfolding digits
digits-at zero w i l h = absurd (omega arith)
digits-at (suc d) w zero l h = eq-eqb (w % 2) 1 (sym (bit_at_lowest w) ∙ h)
digits-at (suc d) w (suc i) l h = digits-at d (w / 2) i (omega arith) (sym (bit_at-suc w i) ∙ h)

one_digit : (r : ℕ) → r < 2 → r ≤ count_ones r
one_digit zero l = omega arith
one_digit (suc r) l = elim (cases_lt (count_ones (suc r)) 1) [
  | inl none ↦ let zero' = zero_from_ones (suc r) (omega arith) in absurd (omega arith)
  | inr some ↦ omega arith
]

ones_halves : (w : ℕ) → w % 2 + count_ones (w / 2) ≤ count_ones w
ones_halves w =
    let whole : w / 2 * 2 + w % 2 ≡ w = omega arith in
    let cat : count_ones (w / 2 * 2 + w % 2) ≡ count_ones (w / 2) + count_ones (w % 2) = ones_cat 1 (w / 2) (w % 2)
    (omega arith) in
    let low : w % 2 ≤ count_ones (w % 2) = one_digit (w % 2) (omega arith) in
    let same : count_ones w ≡ count_ones (w / 2 * 2 + w % 2) = ap count_ones (sym whole) in
    omega arith

cond_le : (x : Bool) (m n r : ℕ) → m ≤ n → (x ≡ true → 1 ≤ r) → cond x (1 + m) m ≤ r + n
cond_le true m n r le one = let some = one refl in omega arith
cond_le false m n r le one = omega arith

marks-digits : (d w : ℕ) → marks (digits d w) ≤ count_ones w
unfolding digits
marks-digits zero w = omega arith
marks-digits (suc d) w =
    let rest = cond_le (w % 2 == 1) (marks (digits d (w / 2))) (count_ones (w / 2)) (w % 2) (marks-digits d (w / 2))
    (λ t. omega (arith, eqb-true (w % 2) 1 t)) in
    let all = ones_halves w in
    subst (λ n. n ≤ count_ones w) (sym (marks_cons (w % 2 == 1) (digits d (w / 2)))) (omega arith)

marks-replicate : (n : ℕ) → marks (replicate n true) ≡ n
marks-replicate zero = refl
marks-replicate (suc n) =
    let one : marks (true ∷ replicate n true) ≡ 1 + marks (replicate n true) = marks_cons true (replicate n true) in
    let rest = marks-replicate n in
    omega arith

pub distinct_ones : (w : ℕ) (xs : List ℕ) → AllPairs ◌≢◌ xs → All (λ x. bit_at w x ≡ 1) xs → length xs ≤ count_ones w
distinct_ones w xs apart each =
    let n : ℕ = length xs in
    let all : length (replicate n true) ≡ n = length-replicate n true in
    let fewer : marks (take (length (replicate n true)) (replicate n true)) ≤ marks (digits w w) = pigeons
    (λ i. get_or xs i 0) (replicate n true) (length (replicate n true)) (digits w w) (omega arith)
    (λ i l h. elim (cases_lt (get_or xs i 0) w) [
      | inl low ↦ digits-at w w (get_or xs i 0) low (each i 0 (omega arith))
      | inr high ↦
          let none = bit_at_above w w (get_or xs i 0) (below_power w) high in
          let one = each i 0 (omega arith) in
          absurd (omega arith)
    ])
    (λ i j l m. apart i j 0 l (omega arith)) in
    let whole : marks (take (length (replicate n true)) (replicate n true)) ≡ n = ap marks
    (take-length (replicate n true)) ∙ marks-replicate n in
    let few = marks-digits w w in
    omega arith
