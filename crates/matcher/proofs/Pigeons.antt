-- More places than atoms: two places would share one.
use Rattle.std.proofs.Common.{◌≡◌, ℕ, zero, suc, ◌+◌, ◌<◌, ◌≤◌, Bool, true, false, List, [], ◌∷◌, ◌++◌, length, map, take, set, get_or, count_by, cond, refl, sym, ap, ◌∙◌, subst, arith, inl, inr}
use Rattle.std.proofs.lemmas.Bool.{cases_Bool, false≢true}
use Rattle.std.proofs.lemmas.List.{get_or-set_other}
use Rattle.std.proofs.lemmas.List.Recursion.{is_count_by}
use Rattle.std.proofs.lemmas.List.Sums.{count_by_more_no, count_by_more_yes}

abbrev pub marks : List Bool → ℕ
marks xs = count_by (λ x. x) xs

-- the same by recursion
counted : List Bool → ℕ
counted [] = 0
counted (x ∷ xs) = cond x (1 + counted xs) (counted xs)

counted-marks : (xs : List Bool) → counted xs ≡ marks xs
unfolding counted
counted-marks xs = is_count_by counted (λ x. x) refl (λ x ys. refl) xs

pub marks_cons : (x : Bool) (xs : List Bool) → marks (x ∷ xs) ≡ cond x (1 + marks xs) (marks xs)
unfolding counted
marks_cons x xs = sym (counted-marks (x ∷ xs)) ∙ ap (λ n. cond x (1 + n) n) (counted-marks xs)

counted_set : (xs : List Bool) (i : ℕ) → get_or xs i false ≡ true → counted (set xs i false) + 1 ≡ counted xs
unfolding counted
counted_set [] i h = absurd (false≢true h)
counted_set (true ∷ xs) zero h = omega arith
counted_set (false ∷ xs) zero h = absurd (false≢true h)
counted_set (true ∷ xs) (suc i) h = let rest = counted_set xs i h in omega arith
counted_set (false ∷ xs) (suc i) h = counted_set xs i h

-- a mark taken away
pub marks_set : (xs : List Bool) (i : ℕ) → get_or xs i false ≡ true → marks (set xs i false) + 1 ≡ marks xs
marks_set xs i h = ap (λ n. n + 1) (sym (counted-marks (set xs i false))) ∙ counted_set xs i h ∙ counted-marks xs

-- a mark more
counted_push_yes : (xs : List Bool) → counted (xs ++ true ∷ []) ≡ counted xs + 1
unfolding counted
counted_push_yes [] = refl
counted_push_yes (true ∷ xs) = let rest = counted_push_yes xs in omega arith
counted_push_yes (false ∷ xs) = counted_push_yes xs

pub marks_push_yes : (xs : List Bool) → marks (xs ++ true ∷ []) ≡ marks xs + 1
marks_push_yes xs = sym (counted-marks (xs ++ true ∷ [])) ∙ counted_push_yes xs ∙ ap (λ n. n + 1) (counted-marks xs)

-- and an element that is not marked
counted_push_no : (xs : List Bool) → counted (xs ++ false ∷ []) ≡ counted xs
unfolding counted
counted_push_no [] = refl
counted_push_no (true ∷ xs) = ap (λ n. 1 + n) (counted_push_no xs)
counted_push_no (false ∷ xs) = counted_push_no xs

pub marks_push_no : (xs : List Bool) → marks (xs ++ false ∷ []) ≡ marks xs
marks_push_no xs = sym (counted-marks (xs ++ false ∷ [])) ∙ counted_push_no xs ∙ counted-marks xs

-- the elements of which a test is true, as marks
pub marks_map : {X : Type 0} (p : X → Bool) (xs : List X) → marks (map p xs) ≡ count_by p xs
unfolding counted
marks_map p xs = sym (counted-marks (map p xs)) ∙ is_count_by (λ ys. counted (map p ys)) p refl (λ x ys. refl) xs

-- different places at marked atoms: as many atoms are marked
pub pigeons : (f : ℕ → ℕ) (places : List Bool) (k : ℕ) (atoms : List Bool) → k ≤ length places
    → ((i : ℕ) → i < k → get_or places i false ≡ true → get_or atoms (f i) false ≡ true)
    → ((i j : ℕ) → i < j → j < k → f i ≡ f j → ⊥) → marks (take k places) ≤ marks atoms
pigeons f places zero atoms l within apart = omega arith
pigeons f places (suc k) atoms l within apart =
    let next : k + 1 ≡ suc k = omega arith in
    elim (cases_Bool (get_or places k false)) [
      | inl yes' ↦
          let here : get_or atoms (f k) false ≡ true = within k (omega arith) yes' in
          let rest : marks (take k places) ≤ marks (set atoms (f k) false) = pigeons f places k (set atoms (f k) false)
          (omega arith)
          (λ i m h. get_or-set_other atoms (f k) (f i) false false (apart i k m (omega arith))
          ∙ within i (omega arith) h) (λ i j m n. apart i j m (omega arith)) in
          let more : marks (take (k + 1) places) ≡ marks (take k places) + 1 = count_by_more_yes
          (λ (x : Bool). x) places k false (omega arith) yes' in
          let less = marks_set atoms (f k) here in
          subst (λ n. marks (take n places) ≤ marks atoms) next (omega arith)
      | inr no' ↦
          let rest : marks (take k places) ≤ marks atoms = pigeons f places k atoms (omega arith)
          (λ i m. within i (omega arith)) (λ i j m n. apart i j m (omega arith)) in
          let same : marks (take (k + 1) places) ≡ marks (take k places) = count_by_more_no
          (λ (x : Bool). x) places k false (omega arith) no' in
          subst (λ n. marks (take n places) ≤ marks atoms) next (omega arith)
    ]
