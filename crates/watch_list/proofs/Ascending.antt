-- Ascending lists with one number more or less.
use Rattle.std.proofs.Common.{◌≡◌, ◌≢◌, ◌↔◌, ◌+◌, ◌-◌, ◌<◌, ◌≤◌, ◌∙◌, ap, arith, get_or, inl, inr, length, List, ◌∷◌, subst, suc, sym, zero, ℕ}
use Rattle.std.proofs.lemmas.Bool.{cases_eq, cases_lt}
use Rattle.std.proofs.lemmas.List.{get_or_default}
use Rattle.std.proofs.lemmas.List.Edits.{get_or-insert_above, get_or-insert_at, get_or-insert_below, get_or-remove_above, get_or-remove_below, length-insert, length-remove}
use Rattle.std.proofs.lemmas.List.Kept.{AllPairs-from_increasing}
use Rattle.std.proofs.lemmas.List.Sorted.{Contains-permutation, IsPermutation-insert, IsPermutation-remove, IsPermutation-sym, searched}
use Rattle.std.specs.Prelude.{Contains, Err, if◌then◌else◌, MatchResult, Ok, Result}
use Rattle.std.specs.Result.{IsOk, is_ok}
use Rattle.std.specs.List.{insert, remove}
use Rattle.std.specs.List.Sorted.{IsBinarySearchResult, IsPermutation, IsStrictlyIncreasing}
use Rattle.std.specs.Ordering.{nat_cmp}

-- what a search for a number finds: its place, or where it would stand
abbrev pub IsPlace : List ℕ → ℕ → ℕ → Type 0
IsPlace xs x i = (i < length xs) × (get_or xs i 0 ≡ x)

pub record IsGap (xs : List ℕ) (x i : ℕ) : Type 0 where
  pub within : i ≤ length xs
  pub below : (k : ℕ) → k < i → get_or xs k 0 < x
  pub above : (k : ℕ) → i ≤ k → k < length xs → x < get_or xs k 0

rises : (xs : List ℕ) → IsStrictlyIncreasing xs → (i j : ℕ) → i ≤ j → j < length xs → get_or xs i 0 ≤ get_or xs j 0
rises xs up i j le lt = elim (cases_eq i j) [
  | inl e ↦ omega (arith, ap (λ n. get_or xs n 0) e)
  | inr n ↦ omega (arith, AllPairs-from_increasing xs up i j 0 (omega arith) lt)
]

pub looked-up : (xs ys : List ℕ) (x : ℕ) (r : Result ℕ ℕ) → IsStrictlyIncreasing xs → ys ≡ xs
    → IsBinarySearchResult (λ y. nat_cmp y x) ys r → MatchResult r (IsPlace xs x) (IsGap xs x)
looked-up xs ys x r up same h = found r (subst (λ l. IsBinarySearchResult (λ y. nat_cmp y x) l r) same h)
  where
    found : (r : Result ℕ ℕ) → IsBinarySearchResult (λ y. nat_cmp y x) xs r → MatchResult r (IsPlace xs x) (IsGap xs x)
    found (Ok i) h = searched xs x (Ok i) h (rises xs up)
    found (Err i) h =
        let g = searched xs x (Err i) h (rises xs up) in
        record { within = g.0; below = g.1; above = g.2 }

pub gap-lacks : (xs : List ℕ) (x i : ℕ) → IsGap xs x i → Contains xs x → ⊥
gap-lacks xs x i gap c = let e = get_or_default xs c.0 x 0 c.1 in elim (cases_lt c.0 i) [
  | inl l ↦ omega (arith, gap.below c.0 l, e, c.2)
  | inr l ↦ omega (arith, gap.above c.0 (omega arith) c.1, e, c.2)
]

-- the other numbers of a list with one more in front
contains-rest : (x q : ℕ) (xs : List ℕ) → q ≢ x → Contains (x ∷ xs) q ↔ Contains xs q
contains-rest x q xs other = (rest, λ c. (suc c.0, omega (arith, c.1), c.2))
  where
    rest : Contains (x ∷ xs) q → Contains xs q
    rest (zero, lt, e) = absurd (other (sym e))
    rest (suc k, lt, e) = (k, omega (arith, lt), e)

contains-permuted : (x q : ℕ) (xs ys : List ℕ) → q ≢ x → IsPermutation xs (x ∷ ys) → Contains ys q ↔ Contains xs q
contains-permuted x q xs ys other p =
    let rest = contains-rest x q ys other in (
      λ c. Contains-permutation (x ∷ ys) xs q (IsPermutation-sym xs (x ∷ ys) p) (rest.1 c),
      λ c. rest.0 (Contains-permutation xs (x ∷ ys) q p c),
    )

pub remove-others : (xs : List ℕ) (x i q : ℕ) → IsPlace xs x i → q ≢ x → Contains (remove xs i) q ↔ Contains xs q
remove-others xs x i q at other =
    contains-permuted x q xs (remove xs i) other
    (IsPermutation-remove xs i x at.0 (sym (get_or_default xs i x 0 at.0 ∙ at.1)))

pub insert-others : (xs : List ℕ) (x i q : ℕ) → q ≢ x → Contains (insert xs i x) q ↔ Contains xs q
insert-others xs x i q other =
    let p = contains-permuted x q (insert xs i x) xs other (IsPermutation-sym _ _ (IsPermutation-insert xs i x)) in
    (p.1, p.0)

pub remove-lacks : (xs : List ℕ) (x i : ℕ) → IsStrictlyIncreasing xs → IsPlace xs x i → Contains (remove xs i) x → ⊥
remove-lacks xs x i up at c =
    let len = length-remove xs i at.0 in
    let e = get_or_default (remove xs i) c.0 x 0 c.1 in
    elim (cases_lt c.0 i) [
      | inl l ↦ omega (
        arith,
        AllPairs-from_increasing xs up c.0 i 0 l at.0,
        get_or-remove_below xs i 0 c.0 l at.0,
        e,
        c.2,
      )
      | inr l ↦ omega (
        arith,
        AllPairs-from_increasing xs up i (c.0 + 1) 0 (omega arith) (omega (arith, c.1, len)),
        get_or-remove_above xs i 0 c.0 (omega arith) at.0,
        e,
        c.2,
      )
    ]

pub insert-ascends : (xs : List ℕ) (x i : ℕ) → IsStrictlyIncreasing xs → IsGap xs x i
    → IsStrictlyIncreasing (insert xs i x)
insert-ascends xs x i up gap k lt =
    let len = length-insert xs i x gap.within in
    let here = get_or-insert_at xs i x 0 gap.within in
    let below : (n : ℕ) → n < i → get_or (insert xs i x) n 0 ≡ get_or xs n 0 =
    λ n l. get_or-insert_below xs i x 0 n l gap.within in
    let above : (n : ℕ) → i ≤ n → get_or (insert xs i x) (n + 1) 0 ≡ get_or xs n 0 =
    λ n l. get_or-insert_above xs i x 0 n l gap.within in
    elim (cases_lt (k + 1) i) [
      | inl l ↦ omega (arith, below k (omega arith), below (k + 1) l, up k (omega arith))
      | inr l ↦ elim (cases_eq (k + 1) i) [
        | inl e ↦ omega (
          arith,
          below k (omega arith),
          here,
          ap (λ n. get_or (insert xs i x) n 0) e,
          gap.below k (omega arith),
        )
        | inr n ↦ elim (cases_eq k i) [
          | inl m ↦ omega (
            arith,
            ap (λ n. get_or (insert xs i x) n 0) m,
            here,
            above k (omega arith),
            gap.above k (omega arith) (omega arith),
          )
          | inr m ↦
              let is : (k - 1) + 1 ≡ k = omega arith in
              omega (
                arith,
                above (k - 1) (omega arith),
                ap (λ n. get_or (insert xs i x) n 0) is,
                ap (λ n. get_or xs n 0) is,
                above k (omega arith),
                up (k - 1) (omega arith),
              )
        ]
      ]
    ]

-- what is left where there was room
pub put-in : {T E : Type 0} (r : Result T E) (xs ys zs : List ℕ) → IsOk r → zs ≡ (if is_ok r then xs else ys) → zs ≡ xs
put-in (Ok x) xs ys zs ok e = e
put-in (Err x) xs ys zs ok e = absurd (cc)
