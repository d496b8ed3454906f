-- Sums over the atoms so far, and sums of which one is over distinct elements of the other's list. For private clauses
-- and proofs alone.
use Rattle.std.proofs.Common.{◌≡◌, ℕ, ◌+◌, ◌*◌, ◌^◌, ◌<◌, ◌≤◌, List, [], ◌∷◌, ◌++◌, length, take, get_or, map, sum, slice_get, Some, ap, sym, subst, ◌∙◌, arith, inl, inr}
use Rattle.std.specs.List.{enumerate_from}
use Rattle.std.proofs.lemmas.List.{map-append}
use Rattle.std.proofs.lemmas.List.Sums.{sum_by-append}
use Rattle.std.proofs.lemmas.Option.{slice_get_cases}
use Rattle.chem_core.specs.Enumerated.{mapped-more}

pub record IsSummed (total squares i : ℕ) (codes : List ℕ) : Type 0 where
  pub sum_of : total ≡ sum codes
  pub squares_of : squares ≡ sum (map (λ c. c * c) codes)
  pub few : total ≤ i * 2 ^ 35
  pub few_squares : squares ≤ i * 2 ^ 70

pub sum_more : (xs : List ℕ) (x : ℕ) → sum (xs ++ x ∷ []) ≡ sum xs + x
sum_more xs x = sum_by-append (λ (n : ℕ). n) xs (x ∷ []) ∙ omega arith

-- one code more
pub summed-next : (codes : List ℕ) (i t s c q : ℕ) → q ≡ c * c → c < 2 ^ 35 → q < 2 ^ 70 → IsSummed t s i codes
    → IsSummed (t + c) (s + q) (i + 1) (codes ++ c ∷ [])
summed-next codes i t s c q square few few_square before =
    let squares : List ℕ = map (λ x. x * x) codes in
    let one = before.sum_of in
    let two = before.squares_of in
    let three = before.few in
    let four = before.few_squares in
    record {
      sum_of = ap (λ n. n + c) one ∙ sym (sum_more codes c);
      squares_of = ap (λ n. n + q) two ∙ ap (λ n. sum squares + n) square ∙ sym (sum_more squares (c * c))
          ∙ ap sum (sym (map-append (λ (x : ℕ). x * x) codes (c ∷ [])));
      few = omega arith;
      few_squares = omega arith;
    }

pub summed-more : {X : Type 0} (f : ℕ × X → ℕ) (xs : List X) (i t s c q : ℕ) → i < length xs
    → ((x : X) → slice_get xs i ≡ Some x → c ≡ f (i, x)) → q ≡ c * c → c < 2 ^ 35 → q < 2 ^ 70
    → IsSummed t s i (map f (enumerate_from 0 (take i xs)))
    → IsSummed (t + c) (s + q) (i + 1) (map f (enumerate_from 0 (take (i + 1) xs)))
summed-more f xs i t s c q within is square few few_square before =
    elim ((slice_get_cases xs i).1) [
      | inl found ↦
          let codes : List ℕ = map f (enumerate_from 0 (take i xs)) in
          let more = mapped-more f xs i found.0 within in
          let same : f (i, get_or xs i found.0) ≡ c = ap (λ x. f (i, x)) found.3 ∙ sym (is found.0 found.2) in
          let all : map f (enumerate_from 0 (take (i + 1) xs)) ≡ codes ++ c ∷ [] =
          more ∙ ap (λ x. codes ++ x ∷ []) same in
          subst (IsSummed (t + c) (s + q) (i + 1)) (sym all)
          (summed-next codes i t s c q square few few_square before)
      | inr past ↦ absurd (omega (arith, past.0))
    ]
