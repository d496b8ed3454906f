-- Lists of numbers that ascend: one more number at its place, and that the elements pin the length.
use Rattle.std.proofs.Common.{refl, zero, suc, [], ◌∷◌, ◌⊎◌, ℕ, ◌+◌, ◌<◌, ◌≡◌, inl, inr, List, length, get_or, Contains, sym, ap, arith, subst}
use Rattle.std.specs.List.Sorted.{IsStrictlyIncreasing}
use Rattle.std.proofs.lemmas.Bool.{cases_lt, cases_eq}
use Rattle.std.proofs.lemmas.List.Elements.{Contains-get_or}
use Rattle.std.proofs.lemmas.List.Kept.{AllPairs-from_increasing}

-- each number is below all after it
abbrev pub Ascends : List ℕ → Type 0
Ascends [] = Unit {0}
Ascends (x ∷ xs) = ((y : ℕ) → Contains xs y → x < y) × Ascends xs

pub contains_cases : (x : ℕ) (xs : List ℕ) (y : ℕ) → Contains (x ∷ xs) y → (x ≡ y) ⊎ Contains xs y
contains_cases x xs y (zero, l, e) = inl e
contains_cases x xs y (suc k, l, e) = inr (k, omega arith, e)

pub contains_first : (x : ℕ) (xs : List ℕ) → Contains (x ∷ xs) x
contains_first x xs = (zero, omega arith, refl)

pub contains_rest : (x : ℕ) (xs : List ℕ) (y : ℕ) → Contains xs y → Contains (x ∷ xs) y
contains_rest x xs y h = (suc h.0, omega (arith, h.1), h.2)

-- a list with one more number
pub record With (xs : List ℕ) (b : ℕ) : Type 0 where
  pub list : List ℕ
  pub ascends : Ascends list
  pub longer : length list ≡ length xs + 1
  pub from : (y : ℕ) → Contains list y → (b ≡ y) ⊎ Contains xs y
  pub new : Contains list b
  pub kept : (y : ℕ) → Contains xs y → Contains list y

pub with_new : (xs : List ℕ) (b : ℕ) → Ascends xs → (Contains xs b → ⊥) → With xs b
with_new [] b up none = record {
  list = b ∷ [];
  ascends = (λ y h. absurd (omega (arith, h.1)), tt);
  longer = omega arith;
  from = λ y h. contains_cases b [] y h;
  new = contains_first b [];
  kept = λ y h. absurd (omega (arith, h.1));
}
with_new (x ∷ xs) b up none = elim (cases_lt b x) [
  | inl low ↦ record {
    list = b ∷ (x ∷ xs);
    ascends = (
      λ y h. elim (contains_cases x xs y h) [
        | inl e ↦ omega arith
        | inr q ↦ let far = up.0 y q
            in omega arith
      ],
      up,
    );
    longer = omega arith;
    from = λ y h. contains_cases b (x ∷ xs) y h;
    new = contains_first b (x ∷ xs);
    kept = λ y h. contains_rest b (x ∷ xs) y h;
  }
  | inr high ↦ elim (cases_eq b x) [
    | inl same ↦ absurd (none (subst (λ y. Contains (x ∷ xs) y) (sym same) (contains_first x xs)))
    | inr apart ↦
        let rest : With xs b = with_new xs b up.1 (λ h. none (contains_rest x xs b h)) in record {
          list = x ∷ rest.list;
          ascends = (λ y h. elim (rest.from y h) [ inl e ↦ omega arith | inr q ↦ up.0 y q ], rest.ascends);
          longer = let l = rest.longer in omega arith;
          from = λ y h. elim (contains_cases x rest.list y h) [
            | inl e ↦ inr (subst (λ z. Contains (x ∷ xs) z) e (contains_first x xs))
            | inr q ↦ elim (rest.from y q)
                [ inl e ↦ inl e | inr r ↦ inr (contains_rest x xs y r) ]
          ];
          new = contains_rest x rest.list b rest.new;
          kept = λ y h. elim (contains_cases x xs y h) [
            | inl e ↦ subst (λ z. Contains (x ∷ rest.list) z) e
                (contains_first x rest.list)
            | inr q ↦ contains_rest x rest.list y (rest.kept y q)
          ];
        }
  ]
]

pub increasing_from : (xs : List ℕ) → Ascends xs → IsStrictlyIncreasing xs
increasing_from [] up k h = absurd (omega arith)
increasing_from (x ∷ xs) up zero h = up.0 (get_or xs 0 0) (Contains-get_or xs 0 0 (omega arith))
increasing_from (x ∷ xs) up (suc k) h =
    let next : suc k + 1 ≡ suc (k + 1) = omega arith in
    rw next (increasing_from xs up.1 k (omega arith))

increasing_tail : (x : ℕ) (xs : List ℕ) → IsStrictlyIncreasing (x ∷ xs) → IsStrictlyIncreasing xs
increasing_tail x xs up k h =
    let more : suc k + 1 < length (x ∷ xs) = omega arith in
    let next : suc k + 1 ≡ suc (k + 1) = omega arith in
    rw next at (up (suc k) more)

pub ascends_from : (xs : List ℕ) → IsStrictlyIncreasing xs → Ascends xs
ascends_from [] up = tt
ascends_from (x ∷ xs) up = (
  λ y h. subst (λ z. x < z) h.2 (AllPairs-from_increasing (x ∷ xs) up 0 (suc h.0) y (omega arith) (omega (arith, h.1))),
  ascends_from xs (increasing_tail x xs up),
)

-- two lists that ascend and have the same elements are as long
pub same_length : (xs ys : List ℕ) → Ascends xs → Ascends ys → ((b : ℕ) → Contains xs b → Contains ys b)
    → ((b : ℕ) → Contains ys b → Contains xs b) → length xs ≡ length ys
same_length [] [] up0 up1 to from = refl
same_length [] (y ∷ ys) up0 up1 to from = let q = from y (contains_first y ys) in absurd (omega (arith, q.1))
same_length (x ∷ xs) [] up0 up1 to from = let q = to x (contains_first x xs) in absurd (omega (arith, q.1))
same_length (x ∷ xs) (y ∷ ys) up0 up1 to from =
    let head : x ≡ y = elim (contains_cases y ys x (to x (contains_first x xs))) [
      | inl e ↦ sym e
      | inr q ↦ elim (contains_cases x xs y (from y (contains_first y ys))) [
        | inl e ↦ e
        | inr r ↦
            let low = up0.0 y r in
            let high = up1.0 x q in
            absurd (omega arith)
      ]
    ] in
    let to' : (b : ℕ) → Contains xs b → Contains ys b = λ b q. elim
    (contains_cases y ys b (to b (contains_rest x xs b q))) [
      | inl e ↦ let low = up0.0 b q in absurd (omega arith)
      | inr r ↦ r
    ] in
    let from' : (b : ℕ) → Contains ys b → Contains xs b = λ b q. elim
    (contains_cases x xs b (from b (contains_rest y ys b q))) [
      | inl e ↦ let low = up1.0 b q in absurd (omega arith)
      | inr r ↦ r
    ] in
    ap suc (same_length xs ys up0.1 up1.1 to' from')
