-- A list of pairs that ascends by the first part: its pairs pin it.
use Rattle.std.proofs.Common.{refl, suc, zero, [], ◌∷◌, ◌⊎◌, ℕ, ◌+◌, ◌<◌, ◌≡◌, inl, inr, List, length, map, Contains, sym, ap, ◌∙◌, arith}
use Rattle.std.specs.List.Sorted.{IsStrictlyIncreasing}
use Rattle.std.proofs.lemmas.List.{get_or-map, length-map}
use Rattle.std.proofs.lemmas.List.Kept.{AllPairs-from_increasing}

pub Contains-cons_cases : {X : Type 0} (x : X) (xs : List X) (y : X) → Contains (x ∷ xs) y → (x ≡ y) ⊎ Contains xs y
Contains-cons_cases x xs y (zero, l, e) = inl e
Contains-cons_cases x xs y (suc k, l, e) = inr (k, omega arith, e)

pub Contains-cons_first : {X : Type 0} (x : X) (xs : List X) → Contains (x ∷ xs) x
Contains-cons_first x xs = (zero, omega arith, refl)

pub Contains-cons_rest : {X : Type 0} (x : X) (xs : List X) (y : X) → Contains xs y → Contains (x ∷ xs) y
Contains-cons_rest x xs y h = (suc h.0, omega (arith, h.1), h.2)

ascending-tail : (x : ℕ) (xs : List ℕ) → IsStrictlyIncreasing (x ∷ xs) → IsStrictlyIncreasing xs
ascending-tail x xs up k h =
    let more : suc k + 1 < length (x ∷ xs) = omega arith in
    let next : suc k + 1 ≡ suc (k + 1) = omega arith in
    rw next at (up (suc k) more)

-- the first pair is below each other
first_below : (x : ℕ × ℕ) (xs : List (ℕ × ℕ)) (y : ℕ × ℕ) → IsStrictlyIncreasing (map (λ p. p.0) (x ∷ xs))
    → Contains xs y → x.0 < y.0
first_below x xs y up (k, l, e) =
    let far = AllPairs-from_increasing (map (λ p. p.0) (x ∷ xs)) up 0 (suc k) 0 (omega arith)
    (omega (arith, length-map xs (λ p. p.0))) in
    rw (get_or-map (λ p. p.0) xs k y 0 l, e) at far

pub same_pairs : (xs ys : List (ℕ × ℕ)) → IsStrictlyIncreasing (map (λ p. p.0) xs)
    → IsStrictlyIncreasing (map (λ p. p.0) ys) → ((p : ℕ × ℕ) → Contains xs p → Contains ys p)
    → ((p : ℕ × ℕ) → Contains ys p → Contains xs p) → xs ≡ ys
same_pairs [] [] up0 up1 to from = refl
same_pairs [] (y ∷ ys) up0 up1 to from = let q = from y (Contains-cons_first y ys) in absurd (omega (arith, q.1))
same_pairs (x ∷ xs) [] up0 up1 to from = let q = to x (Contains-cons_first x xs) in absurd (omega (arith, q.1))
same_pairs (x ∷ xs) (y ∷ ys) up0 up1 to from =
    let head : x ≡ y = elim (Contains-cons_cases y ys x (to x (Contains-cons_first x xs))) [
      | inl e ↦ sym e
      | inr q ↦ elim (Contains-cons_cases x xs y (from y (Contains-cons_first y ys))) [
        | inl e ↦ e
        | inr r ↦
            let low = first_below x xs y up0 r in
            let high = first_below y ys x up1 q in
            absurd (omega arith)
      ]
    ] in
    let to' : (p : ℕ × ℕ) → Contains xs p → Contains ys p = λ p q.
    elim (Contains-cons_cases y ys p (to p (Contains-cons_rest x xs p q))) [
      | inl e ↦
          let low = first_below x xs p up0 q in
          let same : x.0 ≡ p.0 = ap (λ v. v.0) (head ∙ e) in
          absurd (omega arith)
      | inr r ↦ r
    ] in
    let from' : (p : ℕ × ℕ) → Contains ys p → Contains xs p = λ p q.
    elim (Contains-cons_cases x xs p (from p (Contains-cons_rest y ys p q))) [
      | inl e ↦
          let low = first_below y ys p up1 q in
          let same : y.0 ≡ p.0 = ap (λ v. v.0) (sym head ∙ e) in
          absurd (omega arith)
      | inr r ↦ r
    ] in
    let tails : xs ≡ ys = same_pairs xs ys (ascending-tail x.0 (map (λ p. p.0) xs) up0)
    (ascending-tail y.0 (map (λ p. p.0) ys) up1) to' from' in
    ap (λ v. v ∷ xs) head ∙ ap (λ vs. y ∷ vs) tails
