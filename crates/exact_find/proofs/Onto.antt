-- A map of numbers below a limit to different numbers below it meets each; and a sum is no less than one over different
-- elements of its list.
use Rattle.std.proofs.Common.{◌≡◌, ℕ, zero, suc, ◌+◌, ◌*◌, ◌<◌, ◌≤◌, List, length, take, set, get_or, replicate, sum, sym, ap, ◌∙◌, subst, arith, inl, inr, ◌⊎◌}
use Rattle.std.proofs.Math.ListN.{length-set}
use Rattle.std.proofs.Math.Seq.{take-length}
use Rattle.std.proofs.lemmas.Bool.{cases_eq}
use Rattle.std.proofs.lemmas.List.{get_or-set_other, get_or-replicate, take_more, length-replicate}
use Rattle.std.proofs.lemmas.List.Sums.{sum_by-set}
use Rattle.std.proofs.lemmas.List.Folds.{sum_by-replicate}
use Rattle.exact_find.proofs.Sums.{sum_more}

-- different numbers below a limit
pub record IsOneToOne (n m : ℕ) (f : ℕ → ℕ) : Type 0 where
  pub within : (i : ℕ) → i < n → f i < m
  pub apart : (i j : ℕ) → i < n → j < n → f i ≡ f j → i ≡ j

sum_take : (xs : List ℕ) (k : ℕ) → k < length xs → sum (take (k + 1) xs) ≡ sum (take k xs) + get_or xs k 0
sum_take xs k within = ap sum (take_more xs k 0 within) ∙ sum_more (take k xs) (get_or xs k 0)

-- elements that are no more than different elements of another list
pub sum_below : (f : ℕ → ℕ) (xs ys : List ℕ) (k : ℕ) → k ≤ length xs → IsOneToOne k (length ys) f
    → ((i : ℕ) → i < k → get_or xs i 0 ≤ get_or ys (f i) 0) → sum (take k xs) ≤ sum ys
sum_below f xs ys zero long one below = omega arith
sum_below f xs ys (suc k) long one below =
    let at : f k < length ys = one.within k (omega arith) in
    let here : get_or xs k 0 ≤ get_or ys (f k) 0 = below k (omega arith) in
    let others : IsOneToOne k (length (set ys (f k) 0)) f = record {
      within = λ i h. subst (λ n. f i < n) (sym (length-set ys (f k) 0)) (one.within i (omega arith));
      apart = λ i j h l same. one.apart i j (omega arith) (omega arith) same;
    } in
    let rest : sum (take k xs) ≤ sum (set ys (f k) 0) = sum_below f xs (set ys (f k) 0) k (omega arith) others
    (λ i h. subst (λ n. get_or xs i 0 ≤ n)
    (sym (get_or-set_other ys (f k) (f i) 0 0 (λ same. absurd (omega (arith, one.apart i k (omega arith) (omega arith) same)))))
    (below i (omega arith))) in
    let less = sum_by-set (λ (x : ℕ). x) ys (f k) 0 0 at in
    let more = sum_take xs k (omega arith) in
    let next : k + 1 ≡ suc k = omega arith in
    subst (λ n. sum (take n xs) ≤ sum ys) next (omega arith)

-- where f takes some number below the limit
pub find_below : (f : ℕ → ℕ) (y n : ℕ) → ((x : ℕ) × (x < n) × (f x ≡ y)) ⊎ ((x : ℕ) → x < n → f x ≡ y → ⊥)
find_below f y zero = inr (λ x h same. absurd (omega arith))
find_below f y (suc n) =
    elim (cases_eq (f n) y) [
      | inl same ↦ inl (n, omega arith, same)
      | inr other ↦ elim (find_below f y n) [
        | inl found ↦ inl (found.0, omega (arith, found.1), found.2)
        | inr none ↦ inr (λ x h same. elim (cases_eq x n) [
          | inl is ↦ other (ap f (sym is) ∙ same)
          | inr isnt ↦ none x (omega arith) same
        ])
      ]
    ]

-- each number below the limit is met
pub onto : (f : ℕ → ℕ) (n y : ℕ) → IsOneToOne n n f → y < n → (x : ℕ) × (x < n) × (f x ≡ y)
onto f n y one within =
    elim (find_below f y n) [
      | inl found ↦ found
      | inr none ↦
          let ones : List ℕ = replicate n 1 in
          let long : length ones ≡ n = length-replicate n 1 in
          let room : length (set ones y 0) ≡ n = length-set ones y 0 ∙ long in
          let total : sum ones ≡ n * 1 = sum_by-replicate (λ (x : ℕ). x) n 1 in
          let full : get_or ones y 0 ≡ 1 = get_or-replicate n y 1 0 within in
          let less : sum (set ones y 0) + get_or ones y 0 ≡ sum ones + 0 =
          sum_by-set (λ (x : ℕ). x) ones y 0 0 (omega arith) in
          let all : IsOneToOne n (length (set ones y 0)) f =
          subst (λ k. IsOneToOne n k f) (sym room) one in
          let below : (i : ℕ) → i < n → get_or ones i 0 ≤ get_or (set ones y 0) (f i) 0 = λ i h.
          let one' : get_or ones i 0 ≡ 1 = get_or-replicate n i 1 0 h in
          let other : get_or (set ones y 0) (f i) 0 ≡ 1 =
          get_or-set_other ones y (f i) 0 0 (λ same. none i h same) ∙ get_or-replicate n (f i) 1 0 (one.within i h) in
          omega arith in
          let le : sum (take n ones) ≤ sum (set ones y 0) = sum_below f ones (set ones y 0) n (omega arith) all below in
          let whole : take n ones ≡ ones = ap (λ k. take k ones) (sym long) ∙ take-length ones in
          absurd (omega (arith, ap sum whole))
    ]

-- different numbers below a limit are no more than the limit
pub one_to_one-le : (n m : ℕ) (f : ℕ → ℕ) → IsOneToOne n m f → n ≤ m
one_to_one-le n m f one =
    let left : List ℕ = replicate n 1 in
    let right : List ℕ = replicate m 1 in
    let long : length left ≡ n = length-replicate n 1 in
    let room : length right ≡ m = length-replicate m 1 in
    let total : sum left ≡ n * 1 = sum_by-replicate (λ (x : ℕ). x) n 1 in
    let whole : sum right ≡ m * 1 = sum_by-replicate (λ (x : ℕ). x) m 1 in
    let below : (i : ℕ) → i < n → get_or left i 0 ≤ get_or right (f i) 0 = λ i h.
    let here : get_or left i 0 ≡ 1 = get_or-replicate n i 1 0 h in
    let there : get_or right (f i) 0 ≡ 1 = get_or-replicate m (f i) 1 0 (one.within i h) in
    omega arith in
    let le : sum (take n left) ≤ sum right =
    sum_below f left right n (omega arith) (subst (λ k. IsOneToOne n k f) (sym room) one) below in
    let same : take n left ≡ left = ap (λ k. take k left) (sym long) ∙ take-length left in
    omega (arith, ap sum same)
