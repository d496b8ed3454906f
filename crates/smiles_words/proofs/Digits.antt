-- Runs of digits, and the numbers that `decimal` writes with one or two.
use Rattle.std.proofs.Common.{◌≡◌, ◌≢◌, ℕ, ◌+◌, ◌-◌, ◌*◌, ◌/◌, ◌%◌, ◌<◌, ◌≤◌, length, get_or, ◌⊎◌, inl, inr, List, [], ◌∷◌, ◌++◌, refl, sym, ◌∙◌, ap, subst, arith}
use Rattle.std.proofs.lemmas.Bool.{cases_lt}
use Rattle.std.specs.List.{AllByRecursion}
use Rattle.std.specs.Fmt.{decimal}
use Rattle.std.proofs.lemmas.Fmt.{decimal_digit, decimal_step}
use Rattle.smiles_words.specs.Atom.{IsDigit, value_of}
use Rattle.smiles_words.specs.Follow.{NoDigitFirst}

pub no_digit : (x : ℕ) (xs a : List ℕ) → IsDigit x → NoDigitFirst a → a ≡ x ∷ xs → ⊥
no_digit x xs a d f e =
    let g : NoDigitFirst (x ∷ xs) = subst NoDigitFirst e f in
    let low = d.0 in
    let high = d.1 in
    elim g [ inl p ↦ omega arith | inr p ↦ omega arith ]

-- all digits that bytes begin with are one run
pub same_digits : (xs ys a b : List ℕ) → AllByRecursion IsDigit xs → AllByRecursion IsDigit ys → NoDigitFirst a
    → NoDigitFirst b → xs ++ a ≡ ys ++ b → (xs ≡ ys) × (a ≡ b)
same_digits [] [] a b dx dy fa fb h = (refl, h)
same_digits [] (y ∷ ys) a b dx dy fa fb h = absurd (no_digit y (ys ++ b) a dy.0 fa h)
same_digits (x ∷ xs) [] a b dx dy fa fb h = absurd (no_digit x (xs ++ a) b dx.0 fb (sym h))
same_digits (x ∷ xs) (y ∷ ys) a b dx dy fa fb h =
    let k : x ∷ (xs ++ a) ≡ y ∷ (ys ++ b) = h in
    let p : x ≡ y = cc in
    let r = same_digits xs ys a b dx.1 dy.1 fa fb (cc) in
    (ap (λ w. w ∷ xs) p ∙ ap (λ w. y ∷ w) r.0, r.1)

-- a number of at most two digits
pub data Short (n : ℕ) : Type 0 where
  one : n < 10 → decimal n ≡ (48 + n) ∷ [] → Short n
  two : 10 ≤ n → decimal n ≡ (48 + n / 10) ∷ (48 + n % 10) ∷ [] → Short n

pub short : (n : ℕ) → n ≤ 99 → Short n
short n le = elim (cases_lt n 10) [
  | inl l ↦ one l (decimal_digit n l)
  | inr l ↦ two l (decimal_step n l (omega arith)
      ∙ ap (λ w. w ++ ((48 + n % 10) ∷ [])) (decimal_digit (n / 10) (omega arith)))
]

digits_by : (n : ℕ) (xs : List ℕ) → n ≤ 99 → decimal n ≡ xs → AllByRecursion IsDigit xs
    → AllByRecursion IsDigit (decimal n)
digits_by n xs le e h = subst (λ (w : List ℕ). AllByRecursion IsDigit w) (sym e) h

digits_short : (n : ℕ) → n ≤ 99 → Short n → AllByRecursion IsDigit (decimal n)
digits_short n le (one l e) = digits_by n _ le e ((omega arith, omega arith), tt)
digits_short n le (two l e) = digits_by n _ le e ((omega arith, omega arith), ((omega arith, omega arith), tt))

pub decimal_digits : (n : ℕ) → n ≤ 99 → AllByRecursion IsDigit (decimal n)
decimal_digits n le = digits_short n le (short n le)

-- digits by their places
pub one_found : (xs : List ℕ) → length xs ≡ 1 → AllByRecursion IsDigit xs → xs ≡ decimal (get_or xs 0 0 - 48)
one_found [] l h = absurd (omega arith)
one_found (a ∷ []) l h =
    let low = h.0.0 in
    let high = h.0.1 in
    let back : 48 + (a - 48) ≡ a = omega arith in
    ap (λ w. w ∷ []) (sym back) ∙ sym (decimal_digit (a - 48) (omega arith))
one_found (a ∷ b ∷ xs) l h = absurd (omega arith)

one_only_by : (a n : ℕ) → Short n → a ∷ [] ≡ decimal n → a - 48 ≡ n
one_only_by a n (one l e) h = let k : a ∷ [] ≡ (48 + n) ∷ [] = h ∙ e in let p : a ≡ 48 + n = cc in omega arith
one_only_by a n (two l e) h = let k : a ∷ [] ≡ (48 + n / 10) ∷ (48 + n % 10) ∷ [] = h ∙ e in absurd (cc)

pub one_only : (xs : List ℕ) (n : ℕ) → length xs ≡ 1 → n ≤ 99 → xs ≡ decimal n → get_or xs 0 0 - 48 ≡ n
one_only [] n l le h = absurd (omega arith)
one_only (a ∷ []) n l le h = one_only_by a n (short n le) h
one_only (a ∷ b ∷ xs) n l le h = absurd (omega arith)

two_value : (a b : ℕ) → IsDigit a → IsDigit b → a ≢ 48 → (10 ≤ 10 * (a - 48) + (b - 48))
    × (10 * (a - 48) + (b - 48) ≤ 99)
    × (48 + (10 * (a - 48) + (b - 48)) / 10 ≡ a) × (48 + (10 * (a - 48) + (b - 48)) % 10 ≡ b)
two_value a b ha hb ne =
    let la = ha.0 in
    let ua = ha.1 in
    let lb = hb.0 in
    let ub = hb.1 in
    (omega arith, omega arith, omega arith, omega arith)

two_spelled : (a b n : ℕ) → Short n → 10 ≤ n → 48 + n / 10 ≡ a → 48 + n % 10 ≡ b → a ∷ b ∷ [] ≡ decimal n
two_spelled a b n (one l e) ten p q = absurd (omega arith)
two_spelled a b n (two l e) ten p q = ap (λ w. w ∷ b ∷ []) (sym p) ∙ ap (λ w. (48 + n / 10) ∷ w ∷ []) (sym q) ∙ sym e

pub two_found : (xs : List ℕ) → length xs ≡ 2 → AllByRecursion IsDigit xs → get_or xs 0 0 ≢ 48
    → xs ≡ decimal (10 * (get_or xs 0 0 - 48) + (get_or xs 1 0 - 48))
two_found [] l h ne = absurd (omega arith)
two_found (a ∷ []) l h ne = absurd (omega arith)
two_found (a ∷ b ∷ []) l h ne = let v = two_value a b h.0 h.1.0 ne in two_spelled a b _ (short _ v.1) v.0 v.2 v.3
two_found (a ∷ b ∷ c ∷ xs) l h ne = absurd (omega arith)

two_only_by : (a b n : ℕ) → Short n → a ∷ b ∷ [] ≡ decimal n → (10 * (a - 48) + (b - 48) ≡ n) × (49 ≤ a)
two_only_by a b n (one l e) h = let k : a ∷ b ∷ [] ≡ (48 + n) ∷ [] = h ∙ e in absurd (cc)
two_only_by a b n (two l e) h =
    let k : a ∷ b ∷ [] ≡ (48 + n / 10) ∷ (48 + n % 10) ∷ [] = h ∙ e in
    let p : a ≡ 48 + n / 10 = cc in
    let q : b ≡ 48 + n % 10 = cc in
    (omega arith, omega arith)

pub two_only : (xs : List ℕ) (n : ℕ) → length xs ≡ 2 → n ≤ 99 → xs ≡ decimal n
    → (10 * (get_or xs 0 0 - 48) + (get_or xs 1 0 - 48) ≡ n) × (49 ≤ get_or xs 0 0)
two_only [] n l le h = absurd (omega arith)
two_only (a ∷ []) n l le h = absurd (omega arith)
two_only (a ∷ b ∷ []) n l le h = two_only_by a b n (short n le) h
two_only (a ∷ b ∷ c ∷ xs) n l le h = absurd (omega arith)

length_by : (xs : List ℕ) (n : ℕ) → Short n → xs ≡ decimal n → (length xs ≡ 1) ⊎ (length xs ≡ 2)
length_by xs n (one l e) h = inl (ap length (h ∙ e))
length_by xs n (two l e) h = inr (ap length (h ∙ e))

pub other_only : (xs : List ℕ) (n : ℕ) → n ≤ 99 → xs ≡ decimal n → (length xs ≡ 1) ⊎ (length xs ≡ 2)
other_only xs n le h = length_by xs n (short n le) h

-- the value of one, two and three digits by their places
pub one_value : (xs : List ℕ) → length xs ≡ 1 → AllByRecursion IsDigit xs → (get_or xs 0 0 - 48 ≡ value_of xs)
    × (get_or xs 0 0 ≤ 57) × (48 ≤ get_or xs 0 0)
one_value [] l h = absurd (omega arith)
one_value (a ∷ []) l h = (omega arith, h.0.1, h.0.0)
one_value (a ∷ b ∷ xs) l h = absurd (omega arith)

pub both_digits : (xs : List ℕ) → length xs ≡ 2 → AllByRecursion IsDigit xs
    → (10 * (get_or xs 0 0 - 48) + (get_or xs 1 0 - 48) ≡ value_of xs) × (get_or xs 0 0 ≤ 57) × (get_or xs 1 0 ≤ 57)
both_digits [] l h = absurd (omega arith)
both_digits (a ∷ []) l h = absurd (omega arith)
both_digits (a ∷ b ∷ []) l h = (omega arith, h.0.1, h.1.0.1)
both_digits (a ∷ b ∷ c ∷ xs) l h = absurd (omega arith)

by_places : (u v w : ℕ) → 100 * u + 10 * v + w ≡ 10 * (10 * (10 * 0 + u) + v) + w
by_places u v w = omega arith

pub three_digits : (xs : List ℕ) → length xs ≡ 3 → AllByRecursion IsDigit xs
    → (100 * (get_or xs 0 0 - 48) + 10 * (get_or xs 1 0 - 48) + (get_or xs 2 0 - 48) ≡ value_of xs)
    × (get_or xs 0 0 ≤ 57) × (get_or xs 1 0 ≤ 57) × (get_or xs 2 0 ≤ 57)
three_digits [] l h = absurd (omega arith)
three_digits (a ∷ []) l h = absurd (omega arith)
three_digits (a ∷ b ∷ []) l h = absurd (omega arith)
three_digits (a ∷ b ∷ c ∷ []) l h = (by_places (a - 48) (b - 48) (c - 48), h.0.1, h.1.0.1, h.1.1.0.1)
three_digits (a ∷ b ∷ c ∷ d ∷ xs) l h = absurd (omega arith)
