-- Lists of atoms that grow at their two ends in turn.
use Rattle.std.proofs.Common.{ℕ, zero, suc, ◌+◌, ◌-◌, ◌<◌, ◌≤◌, ◌≡◌, ◌≢◌, inl, inr, List, [], ◌∷◌, ◌++◌, length, get_or, take, reverse, refl, sym, ap, ◌∙◌, subst, lit≤, arith}
use Rattle.std.specs.Prelude.{Some, All, AllPairs}
use Rattle.std.proofs.lemmas.List.{length-reverse, reverse-reverse, reverse-append, get_or-reverse}
use Rattle.std.proofs.lemmas.Bool.{cases_lt}
use Rattle.path_print.specs.Path.{View, string_of, IsPath}
use Rattle.path_print.specs.Texts.{grown, before, IsCounted, IsSpent}
use Rattle.path_print.proofs.Options.{and_then_some}
use Rattle.path_print.proofs.Strings.{string_prefix, split_last}

pub reverse-push : (xs : List ℕ) (y : ℕ) → reverse (xs ++ y ∷ []) ≡ y ∷ reverse xs
reverse-push xs y = reverse-append xs (y ∷ [])

-- turned once more
pub turned_back : (xs : List ℕ) (y : ℕ) → reverse (y ∷ reverse xs) ≡ xs ++ y ∷ []
turned_back xs y = reverse-append (y ∷ []) (reverse xs) ∙ ap (λ zs. zs ++ y ∷ []) (reverse-reverse xs)

pub length-turned : (xs : List ℕ) (y : ℕ) → length (y ∷ reverse xs) ≡ length xs + 1
length-turned xs y = let n = length-reverse xs in omega (arith, n)

pub length-grown : (xs ys : List ℕ) → length (grown xs ys) ≡ length xs + length ys
length-grown xs [] = omega arith
length-grown xs (y ∷ ys) = let n = length-grown (y ∷ reverse xs) ys in let m = length-turned xs y in omega (arith, n, m)

pub all_turned : (P : ℕ → Type 0) (xs : List ℕ) (y : ℕ) → All P xs → P y → All P (y ∷ reverse xs)
all_turned P xs y all here zero d lt = here
all_turned P xs y all here (suc i) d lt =
    let n = length-reverse xs in
    let within : i < length xs = omega (arith, n, lt) in
    subst P (sym (get_or-reverse xs i d within)) (all (length xs - 1 - i) d (omega arith))

-- ---- distinct atoms

pub distinct_turned : (xs : List ℕ) → AllPairs ◌≢◌ xs → AllPairs ◌≢◌ (reverse xs)
distinct_turned xs distinct i j d lo hi same =
    let hj : j < length xs = rw length-reverse at hi in
    let ti : get_or (reverse xs) i d ≡ get_or xs (length xs - 1 - i) d = get_or-reverse xs i d (omega arith) in
    let tj : get_or (reverse xs) j d ≡ get_or xs (length xs - 1 - j) d = get_or-reverse xs j d hj in
    distinct (length xs - 1 - j) (length xs - 1 - i) d (omega arith) (omega arith) (sym tj ∙ sym same ∙ ti)

distinct_tail : (xs : List ℕ) (y : ℕ) → AllPairs ◌≢◌ (y ∷ xs) → AllPairs ◌≢◌ xs
distinct_tail xs y distinct i j d lo hi same = distinct (suc i) (suc j) d (omega arith) (omega arith) same

pub distinct_inner : (xs ys : List ℕ) → AllPairs ◌≢◌ (grown xs ys) → AllPairs ◌≢◌ xs
distinct_inner xs [] distinct = distinct
distinct_inner xs (y ∷ ys) distinct =
    subst (AllPairs ◌≢◌) (reverse-reverse xs)
    (distinct_turned (reverse xs) (distinct_tail (reverse xs) y (distinct_inner (y ∷ reverse xs) ys distinct)))

-- ---- strings

-- a list with strings in both directions
pub record HasStrings (v : View) (xs : List ℕ) : Type 0 where
  pub there : (s : List ℕ) × (string_of v xs ≡ Some s)
  pub back : (s : List ℕ) × (string_of v (reverse xs) ≡ Some s)

string_tail : (v : View) (x : ℕ) (ys s : List ℕ) → 1 ≤ length ys → string_of v (x ∷ ys) ≡ Some s
    → (t : List ℕ) × (string_of v ys ≡ Some t)
string_tail v x [] s some h = absurd (omega arith)
string_tail v x (y ∷ ys) s some h =
    let q = and_then_some _ (v.label x) s h in
    let r = and_then_some _ (v.byte x y) s q.2 in
    let t = and_then_some _ (string_of v (y ∷ ys)) s r.2 in
    (t.0, t.1)

string_front : (v : View) (xs : List ℕ) (y : ℕ) (s : List ℕ) → 1 ≤ length xs → string_of v (xs ++ y ∷ []) ≡ Some s
    → (t : List ℕ) × (string_of v xs ≡ Some t)
string_front v xs y s some h =
    let whole = split_last xs some in
    let front = take (length xs - 1) xs in
    let last = get_or xs (length xs - 1) 0 in
    let r = string_prefix v front last (y ∷ []) s (sym (ap (λ zs. string_of v (zs ++ y ∷ [])) whole) ∙ h) in
    (r.0, ap (string_of v) whole ∙ r.1)

pub strings_inner : (v : View) (xs ys there back : List ℕ) → 1 ≤ length xs → IsPath v (grown xs ys) there back
    → HasStrings v xs
strings_inner v xs [] there back some path = record {
  there = (there, path.reads);
  back = (back, path.reads_back);
}
strings_inner v xs (y ∷ ys) there back some path =
    let n = length-reverse xs in
    let longer = strings_inner v (y ∷ reverse xs) ys there back (omega arith) path in
    record {
      there = string_front v xs y longer.back.0 some (sym (ap (string_of v) (turned_back xs y)) ∙ longer.back.1);
      back = string_tail v y (reverse xs) longer.there.0 (omega (arith, n, some)) longer.there.1;
    }

-- ---- every list grows from its middle

pub grows : (xs : List ℕ) → 1 ≤ length xs → length xs ≤ 5
    → (k : ℕ) × (k < length xs) × (more : List ℕ) × (grown (get_or xs k 0 ∷ []) more ≡ xs)
grows [] some short = absurd (omega arith)
grows (a ∷ []) some short = (0, lit≤ tt, [], refl)
grows (a ∷ b ∷ []) some short = (1, lit≤ tt, a ∷ [], refl)
grows (a ∷ b ∷ c ∷ []) some short = (1, lit≤ tt, c ∷ a ∷ [], refl)
grows (a ∷ b ∷ c ∷ d ∷ []) some short = (2, lit≤ tt, b ∷ d ∷ a ∷ [], refl)
grows (a ∷ b ∷ c ∷ d ∷ e ∷ []) some short = (2, lit≤ tt, d ∷ b ∷ e ∷ a ∷ [], refl)
grows (a ∷ b ∷ c ∷ d ∷ e ∷ f ∷ xs) some short = absurd (omega arith)

-- a list that is not counted is counted in the other direction
pub counted_back : (xs : List ℕ) → 1 ≤ length xs
    → get_or xs (length xs - 1 - before (length xs)) 0 ≤ get_or xs (before (length xs)) 0 → IsCounted (reverse xs)
counted_back xs some le =
    let n : ℕ = length xs in
    let k : ℕ = before n in
    let size : length (reverse xs) ≡ n = length-reverse xs in
    let within : k < n = omega arith in
    let low : get_or (reverse xs) k 0 ≡ get_or xs (n - 1 - k) 0 = get_or-reverse xs k 0 within in
    let high : get_or (reverse xs) (n - 1 - k) 0 ≡ get_or xs (n - 1 - (n - 1 - k)) 0 = get_or-reverse xs (n - 1 - k) 0
    (omega arith) in
    let high' : get_or xs (n - 1 - (n - 1 - k)) 0 ≡ get_or xs k 0 = ap (λ i. get_or xs i 0) (omega arith) in
    let counted : get_or (reverse xs) k 0 ≤ get_or (reverse xs) (n - 1 - k) 0 = omega
    (arith, low, high, high', le) in
    subst (λ m. get_or (reverse xs) (before m) 0 ≤ get_or (reverse xs) (m - 1 - before m) 0) (sym size) counted

-- from a list that is spent none grows that is counted
pub spent_none : (xs : List ℕ) (y : ℕ) (more : List ℕ) → IsSpent xs → length (grown (y ∷ reverse xs) more) ≤ 5
    → IsCounted (grown (y ∷ reverse xs) more) → ⊥
spent_none (a ∷ b ∷ c ∷ []) y [] (inl h) short counted = omega (arith, h.1, counted)
spent_none (a ∷ b ∷ c ∷ []) y (z ∷ []) (inl h) short counted = omega (arith, h.2, counted)
spent_none (a ∷ b ∷ c ∷ []) y (z ∷ w ∷ ws) (inl h) short counted =
    let n = length-grown (y ∷ c ∷ b ∷ a ∷ []) (z ∷ w ∷ ws) in
    omega (arith, n, short)
spent_none (a ∷ b ∷ c ∷ d ∷ []) y [] (inr h) short counted = omega (arith, h.1, counted)
spent_none (a ∷ b ∷ c ∷ d ∷ []) y (z ∷ zs) (inr h) short counted =
    let n = length-grown (y ∷ d ∷ c ∷ b ∷ a ∷ []) (z ∷ zs) in
    omega (arith, n, short)
spent_none (a ∷ b ∷ c ∷ []) y more (inr h) short counted = omega (arith, h.0)
spent_none (a ∷ b ∷ c ∷ d ∷ []) y more (inl h) short counted = omega (arith, h.0)
spent_none [] y more (inl h) short counted = omega (arith, h.0)
spent_none [] y more (inr h) short counted = omega (arith, h.0)
spent_none (a ∷ []) y more (inl h) short counted = omega (arith, h.0)
spent_none (a ∷ []) y more (inr h) short counted = omega (arith, h.0)
spent_none (a ∷ b ∷ []) y more (inl h) short counted = omega (arith, h.0)
spent_none (a ∷ b ∷ []) y more (inr h) short counted = omega (arith, h.0)
spent_none (a ∷ b ∷ c ∷ d ∷ e ∷ xs) y more (inl h) short counted = omega (arith, h.0)
spent_none (a ∷ b ∷ c ∷ d ∷ e ∷ xs) y more (inr h) short counted = omega (arith, h.0)

-- from one that is not spent each longer one is counted
pub counted_after : (xs : List ℕ) (y : ℕ) → length xs + 1 ≡ 5 → (IsSpent xs → ⊥) → IsCounted (y ∷ reverse xs)
counted_after [] y is more = absurd (omega (arith, is))
counted_after (a ∷ []) y is more = absurd (omega (arith, is))
counted_after (a ∷ b ∷ []) y is more = absurd (omega (arith, is))
counted_after (a ∷ b ∷ c ∷ []) y is more = absurd (omega (arith, is))
counted_after (a ∷ b ∷ c ∷ d ∷ []) y is more = elim (cases_lt b d) [
  | inl low ↦ absurd (more (inr (refl, low)))
  | inr high ↦ omega (arith, high)
]
counted_after (a ∷ b ∷ c ∷ d ∷ e ∷ xs) y is more = absurd (omega (arith, is))
