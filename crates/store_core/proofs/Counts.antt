-- How many entries of a finite map pass a test, after an insertion.
use Rattle.std.proofs.Common.{◌≡◌, ◌+◌, ◌&&◌, ◌<◌, ◌≤◌, ◌∙◌, ap, arith, Bool, cond, count_by, Equal, false, Greater, is_eq, is_lt, length, Less, List, [], ◌∷◌, nat_cmp, None, not, Option, Ordering, refl, Some, subst, sym, T, true, ℕ}
use Rattle.std.proofs.lemmas.List.Sums.{sum_by-cons}
use Rattle.std.specs.Cmp.{nat_cmp_total, ranked}
use Rattle.std.specs.FinMap.{FinMap, entries, entries-insert, entries_sorted, get, get-entries, insert, is_sorted}
use Rattle.std.specs.FinMap.Entries.{below_all, by_order, find, put}
use Rattle.std.specs.Ordering.{eq_by_cmp}

abbrev pub one_if : Bool → ℕ
one_if b = cond b 1 0

abbrev pub one_in : {X : Type 0} → (X → Bool) → Option X → ℕ
one_in p None = 0
one_in p (Some x) = one_if (p x)

pub both-hold : (a b : Bool) → T (a && b) → T a × T b
both-hold true b h = (tt, h)
both-hold false b h = absurd h

pub less-of : (x y : ℕ) (o : Ordering) → o ≡ nat_cmp x y → T (is_lt o) → x < y
less-of x y Less e h = ranked x y Less e
less-of x y Equal e h = absurd h
less-of x y Greater e h = absurd h

apart : (k a : ℕ) → k < a → eq_by_cmp nat_cmp k a ≡ false
apart k a less = grind (arith, less)

module _ {X : Type 0} where
  pub find-below : (k a : ℕ) (es : List (ℕ × X)) → k ≤ a → T (below_all nat_cmp a es) → find nat_cmp k es ≡ None
  find-below k a [] le h = refl
  find-below k a (e ∷ es) le h =
      let parts = both-hold _ _ h in
      ap (λ b. cond b (Some e.1) (find nat_cmp k es))
      (apart k e.0 (let less = less-of a e.0 (nat_cmp a e.0) refl parts.0 in omega (arith, le, less)))
      ∙ find-below k a es le parts.1

  pub count-cons : (p : X → Bool) (e : ℕ × X) (es : List (ℕ × X))
      → count_by (λ x. p x.1) (e ∷ es) ≡ one_if (p e.1) + count_by (λ x. p x.1) es
  count-cons p e es = sum_by-cons (λ (x : ℕ × X). cond (p x.1) 1 0) e es

  put-one : (p : X → Bool) (k : ℕ) (v : X) (e : ℕ × X) (es : List (ℕ × X)) (o : Ordering) → o ≡ nat_cmp k e.0
      → T (below_all nat_cmp e.0 es)
      → count_by (λ x. p x.1) (put nat_cmp k v es) + one_in p (find nat_cmp k es)
      ≡ count_by (λ x. p x.1) es + one_if (p v)
      → count_by (λ x. p x.1) (by_order o ((k, v) ∷ e ∷ es) ((e.0, v) ∷ es) (e ∷ put nat_cmp k v es)) + one_in p
      (cond (is_eq o) (Some e.1) (find nat_cmp k es))
      ≡ count_by (λ x. p x.1) (e ∷ es) + one_if (p v)
  put-one p k v e es Less q below rest =
      let less : k < e.0 = ranked k e.0 Less q in
      let none : one_in p (find nat_cmp k es) ≡ 0 = ap (one_in p) (find-below k e.0 es (omega (arith, less)) below) in
      let first : count_by (λ (x : ℕ × X). p x.1) ((k, v) ∷ e ∷ es) ≡ one_if (p v) + count_by (λ (x : ℕ × X). p x.1)
      (e ∷ es) = count-cons p (k, v) (e ∷ es) in
      omega (arith, none, first)
  put-one p k v e es Equal q below rest =
      let new : count_by (λ (x : ℕ × X). p x.1) ((e.0, v) ∷ es) ≡ one_if (p v) + count_by
      (λ (x : ℕ × X). p x.1) es = count-cons p (e.0, v) es in
      let old : count_by (λ (x : ℕ × X). p x.1) (e ∷ es) ≡ one_if (p e.1) + count_by
      (λ (x : ℕ × X). p x.1) es = count-cons p e es in
      omega (arith, new, old)
  put-one p k v e es Greater q below rest =
      let new : count_by (λ (x : ℕ × X). p x.1) (e ∷ put nat_cmp k v es)
      ≡ one_if (p e.1) + count_by (λ (x : ℕ × X). p x.1) (put nat_cmp k v es) = count-cons p e (put nat_cmp k v es)
      in
      let old : count_by (λ (x : ℕ × X). p x.1) (e ∷ es) ≡ one_if (p e.1) + count_by
      (λ (x : ℕ × X). p x.1) es = count-cons p e es in
      omega (arith, new, old, rest)

  count-put : (p : X → Bool) (k : ℕ) (v : X) (es : List (ℕ × X)) → T (is_sorted nat_cmp es)
      → count_by (λ e. p e.1) (put nat_cmp k v es) + one_in p (find nat_cmp k es)
      ≡ count_by (λ e. p e.1) es + one_if (p v)
  count-put p k v [] h = let new : count_by (λ (x : ℕ × X). p x.1) ((k, v) ∷ [])
      ≡ one_if (p v) + count_by (λ (x : ℕ × X). p x.1) [] = count-cons p (k, v) [] in omega (arith, new)
  count-put p k v (e ∷ es) h =
      let parts = both-hold _ _ h in
      put-one p k v e es (nat_cmp k e.0) refl parts.0 (count-put p k v es parts.1)

  pub count-insert : (p : X → Bool) (m : FinMap nat_cmp X) (k : ℕ) (v : X)
      → count_by (λ e. p e.1) (entries (insert m k v)) + one_in p (get m k)
      ≡ count_by (λ e. p e.1) (entries m) + one_if (p v)
  count-insert p m k v =
      let put-it = count-put p k v (entries m) (entries_sorted m) in
      let is : count_by (λ (e : ℕ × X). p e.1) (entries (insert m k v)) ≡ count_by (λ (e : ℕ × X). p e.1)
      (put nat_cmp k v (entries m)) = ap (λ es. count_by (λ (e : ℕ × X). p e.1) es)
      (entries-insert nat_cmp_total m k v) in
      let was : one_in p (get m k) ≡ one_in p (find nat_cmp k (entries m)) = ap (one_in p) (get-entries m k) in
      omega (arith, put-it, is, was)

  -- an entry that passes is counted
  found-one : (p : X → Bool) (b : Bool) (x : X) (rest : Option X) (n : ℕ) → one_in p rest ≤ n
      → one_in p (cond b (Some x) rest) ≤ one_if (p x) + n
  found-one p true x rest n h = omega arith
  found-one p false x rest n h = omega (arith, h)

  count-find : (p : X → Bool) (k : ℕ) (es : List (ℕ × X)) → one_in p (find nat_cmp k es) ≤ count_by (λ e. p e.1) es
  count-find p k [] = omega arith
  count-find p k (e ∷ es) =
      let old : count_by (λ (x : ℕ × X). p x.1) (e ∷ es) ≡ one_if (p e.1) + count_by
      (λ (x : ℕ × X). p x.1) es = count-cons p e es in
      let le : one_in p (cond (eq_by_cmp nat_cmp k e.0) (Some e.1) (find nat_cmp k es)) ≤ one_if (p e.1) + count_by
      (λ (x : ℕ × X). p x.1) es = found-one p (eq_by_cmp nat_cmp k e.0) e.1 (find nat_cmp k es)
      (count_by (λ (x : ℕ × X). p x.1) es) (count-find p k es) in
      subst (λ n. one_in p (cond (eq_by_cmp nat_cmp k e.0) (Some e.1) (find nat_cmp k es)) ≤ n) (sym old) le

  pub count-get : (p : X → Bool) (m : FinMap nat_cmp X) (k : ℕ) → one_in p (get m k) ≤ count_by (λ e. p e.1) (entries m)
  count-get p m k = let found = count-find p k (entries m) in let was = ap (one_in p) (get-entries m k)
      in omega (arith, found, was)

-- those that pass and those that do not are all
one-or-not : (b : Bool) → one_if b + one_if (not b) ≡ 1
one-or-not true = refl
one-or-not false = refl

pub count-both : {X : Type 0} (p : X → Bool) (es : List (ℕ × X))
    → count_by (λ x. p x.1) es + count_by (λ x. not (p x.1)) es ≡ length es
count-both p [] = refl
count-both p (e ∷ es) =
    omega (arith, count-cons p e es, count-cons (λ x. not (p x)) e es, one-or-not (p e.1), count-both p es)
