-- Marks whose numbers differ: one is taken out.
use Rattle.std.proofs.Common.{◌≡◌, ◌≢◌, ℕ, suc, ◌+◌, ◌<◌, nat_lt, Bool, true, false, cond, not, ◌==◌, List, [], ◌∷◌, ◌++◌, length, find, filter, Option, None, Some, refl, sym, ◌∙◌, ap, subst, arith}
use Rattle.std.proofs.lemmas.Bool.Decides.{nat_tests}
use Rattle.std.specs.List.{AllByRecursion, position_or_len, position, remove}
use Rattle.std.specs.Prelude.{slice_index_or}
use Rattle.line_walk.specs.declared.pairs.Mark.{Mark}
use Rattle.line_walk.specs.Held.{AreSingle}
use Rattle.line_walk.proofs.Lists.{all_push, all_filter, agree_from, differ_from}

filter_single : {K : Type 0} (b : Bool) (x : Mark K) (ys : List (Mark K)) → AllByRecursion (λ y. y.number ≢ x.number) ys
    → AreSingle ys → AreSingle (cond b (x ∷ ys) ys)
filter_single true x ys h k = (h, k)
filter_single false x ys h k = k

pub single_filter : {K : Type 0} (t : Mark K → Bool) (os : List (Mark K)) → AreSingle os → AreSingle (filter t os)
single_filter t [] h = tt
single_filter t (x ∷ xs) h = filter_single (t x) x (filter t xs) (all_filter (λ y. y.number ≢ x.number) t xs h.0)
    (single_filter t xs h.1)

not_found : {K : Type 0} (b : Bool) (x m : Mark K) (r : Option (Mark K)) → (x.number == m.number) ≡ b
    → cond b (Some x) r ≡ None → (m.number ≢ x.number) × (r ≡ None)
not_found true x m r e h = absurd (cc)
not_found false x m r e h = let k = differ_from x.number m.number e in (λ f. k (sym f), h)

pub single_push : {K : Type 0} (os : List (Mark K)) (m : Mark K) → AreSingle os → find (λ o. o.number == m.number) os
    ≡ None → AreSingle (os ++ m ∷ [])
single_push [] m h none = (tt, tt)
single_push (x ∷ xs) m h none =
    let k = not_found (x.number == m.number) x m (find (λ o. o.number == m.number) xs) refl none in
    (all_push (λ y. y.number ≢ x.number) xs m h.0 k.0, single_push xs m h.1 k.1)

-- the element at a place is the first of the number, and the others are left
pub record Taken {K : Type 0} (number : ℕ) (os : List (Mark K)) (place : ℕ) : Type 0 where
  pub below : place < length os
  pub first : (d : Mark K) → find (λ o. o.number == number) os ≡ Some (slice_index_or os place d)
  pub others : AreSingle os → remove os place ≡ filter (λ o. not (o.number == number)) os

kept : {K : Type 0} (number : ℕ) (y : Mark K) (ys : List (Mark K)) (b : Bool) → (y.number == number) ≡ b
    → y.number ≢ number → filter (λ o. not (o.number == number)) ys ≡ ys
    → cond (not b) (y ∷ filter (λ o. not (o.number == number)) ys) (filter (λ o. not (o.number == number)) ys) ≡ y ∷ ys
kept number y ys true e h k = absurd (h (agree_from y.number number e))
kept number y ys false e h k = ap (λ w. y ∷ w) k

all_kept : {K : Type 0} (number : ℕ) (ys : List (Mark K)) → AllByRecursion (λ y. y.number ≢ number) ys
    → filter (λ o. not (o.number == number)) ys ≡ ys
all_kept number [] h = refl
all_kept number (y ∷ ys) h = kept number y ys (y.number == number) refl h.0 (all_kept number ys h.1)

taken_by : {K : Type 0} (number : ℕ) (x : Mark K) (xs : List (Mark K)) (b : Bool) → (x.number == number) ≡ b
    → cond (not b) (1 + position_or_len (λ o. o.number == number) xs) 0 < suc (length xs)
    → (position_or_len (λ o. o.number == number) xs < length xs
    → Taken number xs (position_or_len (λ o. o.number == number) xs))
    → Taken number (x ∷ xs) (cond (not b) (1 + position_or_len (λ o. o.number == number) xs) 0)
taken_by number x xs true e h rec =
    let same : x.number ≡ number = agree_from x.number number e in
    record {
      below = omega arith;
      first = λ d. ap (λ b. cond b (Some x) (find (λ o. o.number == number) xs)) e;
      others = λ s.
          sym (ap (λ b. cond (not b) (x ∷ filter (λ o. not (o.number == number)) xs)
          (filter (λ o. not (o.number == number)) xs)) e
          ∙ all_kept number xs (subst (λ (v : ℕ). AllByRecursion (λ y. y.number ≢ v) xs) same s.0));
    }
taken_by number x xs false e h rec =
    let n = position_or_len (λ o. o.number == number) xs in
    let t = rec (omega arith) in
    let below = t.below in
    let one : suc n ≡ 1 + n = omega arith in
    subst (λ (v : ℕ). Taken number (x ∷ xs) v) one (record {
      below = omega arith;
      first = λ d. ap (λ b. cond b (Some x) (find (λ o. o.number == number) xs)) e ∙ t.first d;
      others = λ s. ap (λ w. x ∷ w) (t.others s.1)
          ∙ sym (ap (λ b. cond (not b) (x ∷ filter (λ o. not (o.number == number)) xs)
          (filter (λ o. not (o.number == number)) xs)) e);
    })

taken : {K : Type 0} (number : ℕ) (os : List (Mark K)) → position_or_len (λ o. o.number == number) os < length os
    → Taken number os (position_or_len (λ o. o.number == number) os)
taken number [] h = absurd (omega arith)
taken number (x ∷ xs) h = taken_by number x xs (x.number == number) refl h (taken number xs)

none_by : {K : Type 0} (number : ℕ) (x : Mark K) (xs : List (Mark K)) (b : Bool) → (x.number == number) ≡ b
    → (cond (not b) (1 + position_or_len (λ o. o.number == number) xs) 0 < suc (length xs) → ⊥)
    → ((position_or_len (λ o. o.number == number) xs < length xs → ⊥) → find (λ o. o.number == number) xs ≡ None)
    → cond b (Some x) (find (λ o. o.number == number) xs) ≡ None
none_by number x xs true e h rec = absurd (h (omega arith))
none_by number x xs false e h rec = rec (λ k. h (omega arith))

none_taken : {K : Type 0} (number : ℕ) (os : List (Mark K)) → (position_or_len (λ o. o.number == number) os < length os
    → ⊥) → find (λ o. o.number == number) os ≡ None
none_taken number [] h = refl
none_taken number (x ∷ xs) h = none_by number x xs (x.number == number) refl h (none_taken number xs)

none_kept : {K : Type 0} (number : ℕ) (x : Mark K) (xs : List (Mark K)) (b : Bool)
    → cond b (Some x) (find (λ o. o.number == number) xs) ≡ None → (find (λ o. o.number == number) xs ≡ None
    → filter (λ o. not (o.number == number)) xs ≡ xs)
    → cond (not b) (x ∷ filter (λ o. not (o.number == number)) xs) (filter (λ o. not (o.number == number)) xs) ≡ x ∷ xs
none_kept number x xs true h rec = absurd (cc)
none_kept number x xs false h rec = ap (λ w. x ∷ w) (rec h)

-- where no mark of the number waits, all are left
pub left_all : {K : Type 0} (number : ℕ) (os : List (Mark K)) → find (λ o. o.number == number) os ≡ None
    → filter (λ o. not (o.number == number)) os ≡ os
left_all number [] h = refl
left_all number (x ∷ xs) h = none_kept number x xs (x.number == number) h (left_all number xs)

some_at : {K : Type 0} (number i n : ℕ) (os : List (Mark K)) (b : Bool) → nat_lt n (length os) ≡ b
    → cond b (Some n) None ≡ Some i → (n < length os → Taken number os n) → Taken number os i
some_at number i n os true e h f = let k : n ≡ i = cc in
    subst (λ (v : ℕ). Taken number os v) k (f (grind (arith, nat_tests)))
some_at number i n os false e h f = absurd (cc)

pub some_place : {K : Type 0} (number i : ℕ) (os : List (Mark K)) → position (λ o. o.number == number) os ≡ Some i
    → Taken number os i
some_place number i os h = some_at number i (position_or_len (λ o. o.number == number) os) os _ refl h (taken number os)

no_at : {K : Type 0} (n : ℕ) (os : List (Mark K)) (b : Bool) → nat_lt n (length os) ≡ b
    → ◌≡◌ {A = Option ℕ} (cond b (Some n) None) None → n < length os → ⊥
no_at n os true e h k = absurd (cc)
no_at n os false e h k = grind (arith, nat_tests)

pub no_place : {K : Type 0} (number : ℕ) (os : List (Mark K)) → position (λ o. o.number == number) os ≡ None
    → find (λ o. o.number == number) os ≡ None
no_place number os h = none_taken number os (no_at (position_or_len (λ o. o.number == number) os) os _ refl h)
