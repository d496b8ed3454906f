-- Runs of digits and of signs.
use Rattle.std.proofs.Common.{◌≡◌, ◌≢◌, ℕ, zero, suc, ◌≤◌, List, [], ◌∷◌, ◌++◌, length, replicate, Option, None, Some, refl, sym, ◌∙◌, ap, subst, arith}
use Rattle.std.specs.List.{AllByRecursion}
use Rattle.smiles_words.specs.Atom.{IsDigit, value_of}
use Rattle.smarts_words.specs.Prims.{IsNumber, NoDigit, number_of}
use Rattle.smarts_words.specs.Follow.{Takes}

pub no_digit : (x : ℕ) (xs a : List ℕ) → IsDigit x → NoDigit a → a ≡ x ∷ xs → ⊥
no_digit x xs a d f e = let g : NoDigit (x ∷ xs) = subst NoDigit e f in g d

-- all digits that bytes begin with are one run
pub same_digits : (xs ys a b : List ℕ) → AllByRecursion IsDigit xs → AllByRecursion IsDigit ys → NoDigit a → NoDigit b
    → xs ++ a ≡ ys ++ b → (xs ≡ ys) × (a ≡ b)
same_digits [] [] a b dx dy fa fb h = (refl, h)
same_digits [] (y ∷ ys) a b dx dy fa fb h = absurd (no_digit y (ys ++ b) a dy.0 fa h)
same_digits (x ∷ xs) [] a b dx dy fa fb h = absurd (no_digit x (xs ++ a) b dx.0 fb (sym h))
same_digits (x ∷ xs) (y ∷ ys) a b dx dy fa fb h =
    let k : x ∷ (xs ++ a) ≡ y ∷ (ys ++ b) = h in
    let p : x ≡ y = cc in
    let r = same_digits xs ys a b dx.1 dy.1 fa fb (cc) in
    (ap (λ w. w ∷ xs) p ∙ ap (λ w. y ∷ w) r.0, r.1)

-- all signs that bytes begin with are one run
pub same_run : (m n b : ℕ) (r s : List ℕ) → ((more : List ℕ) → r ≢ b ∷ more) → ((more : List ℕ) → s ≢ b ∷ more)
    → replicate m b ++ r ≡ replicate n b ++ s → (m ≡ n) × (r ≡ s)
same_run zero zero b r s f g h = (refl, h)
same_run zero (suc n) b r s f g h = absurd (f (replicate n b ++ s) h)
same_run (suc m) zero b r s f g h = absurd (g (replicate m b ++ r) (sym h))
same_run (suc m) (suc n) b r s f g h =
    let k : b ∷ (replicate m b ++ r) ≡ b ∷ (replicate n b ++ s) = h in
    let p = same_run m n b r s f g (cc) in
    (ap suc p.0, p.1)

-- what a reader of all digits answers, where these are wanted or not
pub digits_taken : {V : Type 0} (P : List ℕ → Type 0) (value : List ℕ → V) (bytes digits rest : List ℕ) (v : V)
    → bytes ≡ digits ++ rest → AllByRecursion IsDigit digits → NoDigit rest → P digits → v ≡ value digits
    → Takes (λ (d : List ℕ). d) (λ d. P d × AllByRecursion IsDigit d) (λ d r. NoDigit r) value bytes (Some (v, rest))
digits_taken P value bytes digits rest v split are all p e = record {
  found = (digits, (p, are), split, all, e);
  only = λ x r is follows h. (same_digits digits x rest r are is.1 all follows (sym split ∙ h)).1;
}

pub digits_refused : {V : Type 0} (P : List ℕ → Type 0) (value : List ℕ → V) (bytes digits rest : List ℕ)
    → bytes ≡ digits ++ rest → AllByRecursion IsDigit digits → NoDigit rest → (P digits → ⊥)
    → Takes (λ (d : List ℕ). d) (λ d. P d × AllByRecursion IsDigit d) (λ d r. NoDigit r) value bytes None
digits_refused P value bytes digits rest split are all never = record {
  found = tt;
  only = λ x r is follows h. absurd
      (never (subst P (sym (same_digits digits x rest r are is.1 all follows (sym split ∙ h)).0) is.0));
}

pub no_number : (digits : List ℕ) → length digits ≡ 0 → number_of digits ≡ None
no_number [] h = refl
no_number (d ∷ ds) h = absurd (omega arith)

pub some_number : (digits : List ℕ) → 1 ≤ length digits → number_of digits ≡ Some (value_of digits)
some_number [] h = absurd (omega arith)
some_number (d ∷ ds) h = refl

has_digits : (n : ℕ) (ds : List ℕ) → ◌≡◌ {A = Option ℕ} (Some n) (number_of ds) → (1 ≤ length ds) × (n ≡ value_of ds)
has_digits n [] e = absurd (cc)
has_digits n (d ∷ ds) e = (omega arith, cc)

-- a number that may be left out, and one that may not
abbrev pub AnyNumber : List ℕ → Option (Option ℕ × List ℕ) → Type 0
AnyNumber = Takes (λ (digits : List ℕ). digits) (λ digits. (length digits ≤ 3) × AllByRecursion IsDigit digits)
    (λ digits rest. NoDigit rest) number_of

abbrev pub SomeNumber : List ℕ → Option (ℕ × List ℕ) → Type 0
SomeNumber = Takes (λ (digits : List ℕ). digits) IsNumber (λ digits rest. NoDigit rest) value_of
