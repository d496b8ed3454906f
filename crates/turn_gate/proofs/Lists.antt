-- Views by their seats, and entries by their numbers.
use Rattle.std.proofs.Common.{◌≡◌, ◌≢◌, ◌⊎◌, ℕ, zero, suc, ◌+◌, ◌<◌, ◌≤◌, ◌==◌, Bool, true, false, List, [], ◌∷◌, ◌++◌, length, set, refl, ap, sym, ◌∙◌, subst, inl, inr, ⊎_elim, arith, if◌then◌else◌, leb, append_assoc, length-append}
use Rattle.std.proofs.lemmas.List.{append-nil}
use Rattle.std.proofs.lemmas.Bool.{false≢true}
use Rattle.std.proofs.lemmas.Bool.Decides.{nat_tests}
use mathlib.Core.Option.{some, some-injective, some-ne-none}
use lib.ListN.{get_elem?}
use Rattle.atomic_table.proofs.Lists.{at_set}
use Rattle.turn_gate.specs.Numbers.{has, own, longer, times}
use Rattle.turn_gate.specs.Rules.{PartsKnow, AreAll}

module _ {A : Type 0} where
  pub refits : (P : ℕ → A → Type 0) (l : List A) (id : ℕ) (w : A) → P id w
      → ((k : ℕ) (v : A) → k ≢ id → get_elem? l k ≡ some v → P k v)
      → (k : ℕ) (v : A) → get_elem? (set l id w) k ≡ some v → P k v
  refits P l id w here other k v e = ⊎_elim (λ t. subst (λ (x : A). P k x) t.1
      (subst (λ (j : ℕ). P j w) (sym t.0) here)) (λ t. other k v t.0 t.1) (at_set l id k w v e)

  pub at_new : (l : List A) (a b : A) (k : ℕ) → get_elem? (l ++ a ∷ []) k ≡ some b
      → ((k < length l) × (get_elem? l k ≡ some b)) ⊎ ((k ≡ length l) × (a ≡ b))
  at_new [] a b zero e = inr (refl, some-injective a b e)
  at_new [] a b (suc k) e = absurd (some-ne-none b (sym e))
  at_new (x ∷ xs) a b zero e = inl (omega arith, e)
  at_new (x ∷ xs) a b (suc k) e = ⊎_elim (λ t. inl (omega (arith, t.0), t.1)) (λ t. inr (ap suc t.0, t.1))
      (at_new xs a b k e)

  pub at_length : (l : List A) (k : ℕ) (a : A) → get_elem? l k ≡ some a → k < length l
  at_length [] k a e = absurd (some-ne-none a (sym e))
  at_length (x ∷ xs) zero a e = omega arith
  at_length (x ∷ xs) (suc k) a e = let r = at_length xs k a e in omega arith

  -- a list of one, whose one is written
  pub set_one : (l : List A) (a : A) → length l ≡ 1 → set l 0 a ≡ a ∷ []
  set_one [] a e = absurd (omega arith)
  set_one (x ∷ []) a e = refl
  set_one (x ∷ y ∷ ys) a e = absurd (omega arith)

pub same_by : (b : Bool) (n m : ℕ) → (n == m) ≡ b → (if b then true else false) ≡ true → n ≡ m
same_by true n m is h = grind (arith, nat_tests)
same_by false n m is h = absurd (false≢true h)

pub of_other : (n m : ℕ) → n ≢ m → has (n ∷ []) m ≡ true → ⊥
of_other n m ne h = ne (same_by (n == m) n m refl h)

module _ {E : Type 0} (number : E → ℕ) where
  none_of : (b : Bool) (e : E) → (b ≡ true → ⊥) → (if b then e ∷ [] else []) ≡ []
  none_of true e out = absurd (out refl)
  none_of false e out = refl

  -- an entry of another number makes no difference
  pub of_skip : (ns : List ℕ) (xs : List E) (e : E) → (has ns (number e) ≡ true → ⊥)
      → own number ns (xs ++ e ∷ []) ≡ own number ns xs
  of_skip ns [] e out = none_of (has ns (number e)) e out
  of_skip ns (x ∷ xs) e out = ap (λ (ys : List E). if has ns (number x) then x ∷ ys else ys) (of_skip ns xs e out)

pub empty_is : {A : Type 0} (xs : List A) → length xs ≡ 0 → xs ≡ []
empty_is [] e = refl
empty_is (x ∷ xs) e = absurd (omega arith)

pub single_is : {A : Type 0} (xs : List A) → length xs ≡ 1 → (x : A) × (xs ≡ x ∷ [])
single_is [] e = absurd (omega arith)
single_is (x ∷ []) e = (x, refl)
single_is (x ∷ y ∷ xs) e = absurd (omega arith)

head_by : (b : Bool) (n m : ℕ) → (n == m) ≡ b → n ≡ m → (if b then true else false) ≡ true
head_by true n m is e = refl
head_by false n m is e = grind (arith, nat_tests)

-- what comes first is there
pub has_head : (ns : List ℕ) → 0 < length ns → (n : ℕ) × (has ns n ≡ true)
has_head [] lt = absurd (omega arith)
has_head (n ∷ ns) lt = (n, here (n == n) (has ns n) refl)
  where
    here : (b : Bool) (c : Bool) → (n == n) ≡ b → (if b then true else c) ≡ true
    here true c is = refl
    here false c is = grind (arith, nat_tests)

pub set_length : {A : Type 0} (l : List A) (i : ℕ) (a : A) → length (set l i a) ≡ length l
set_length [] i a = refl
set_length (x ∷ xs) zero a = refl
set_length (x ∷ xs) (suc i) a = ap suc (set_length xs i a)

tail_by : {E : Type 0} (b : Bool) (e : E) (xs : List E) → (if b then e ∷ xs else xs) ≡ [] → xs ≡ []
tail_by true e xs h = let n = ap length h in absurd (omega arith)
tail_by false e xs h = h

-- a list without entries of these numbers ends without them
pub of_tail : {E : Type 0} (number : E → ℕ) (ns : List ℕ) (xs ys : List E) → own number ns (xs ++ ys) ≡ []
    → own number ns ys ≡ []
of_tail number ns [] ys h = h
of_tail number ns (x ∷ xs) ys h = of_tail number ns xs ys (tail_by (has ns (number x)) x (own number ns (xs ++ ys)) h)

either_by : (b c : Bool) (ns ms : List ℕ) (n : ℕ) → (has ns n ≡ c) → (if b then true else has (ns ++ ms) n) ≡ true
    → (has (ns ++ ms) n ≡ true → (has ns n ≡ true) ⊎ (has ms n ≡ true))
    → ((if b then true else has ns n) ≡ true) ⊎ (has ms n ≡ true)
either_by true c ns ms n e h more = inl refl
either_by false c ns ms n e h more = more h

-- a number of two lists is of one of them
pub either_number : (ns ms : List ℕ) (n : ℕ) → has (ns ++ ms) n ≡ true → (has ns n ≡ true) ⊎ (has ms n ≡ true)
either_number [] ms n h = inr h
either_number (k ∷ ns) ms n h = either_by (k == n) (has ns n) ns ms n refl h (either_number ns ms n)

pub not_here : {E : Type 0} (b : Bool) (e : E) (xs : List E) → (if b then e ∷ xs else xs) ≡ [] → b ≡ true → ⊥
not_here true e xs h is = let n = ap length h in absurd (omega arith)
not_here false e xs h is = false≢true is

both_by : {E : Type 0} (b : Bool) (e : E) (xs : List E) → (b ≡ true → ⊥) → xs ≡ [] → (if b then e ∷ xs else xs) ≡ []
both_by true e xs out h = absurd (out refl)
both_by false e xs out h = h

-- what has entries of neither has none of both
pub of_both : {E : Type 0} (number : E → ℕ) (ns ms : List ℕ) (xs : List E) → own number ns xs ≡ []
    → own number ms xs ≡ [] → own number (ns ++ ms) xs ≡ []
of_both number ns ms [] h k = refl
of_both number ns ms (x ∷ xs) h k =
    both_by (has (ns ++ ms) (number x)) x (own number (ns ++ ms) xs)
    (λ is. ⊎_elim (λ t. not_here (has ns (number x)) x (own number ns xs) h t)
    (λ t. not_here (has ms (number x)) x (own number ms xs) k t) (either_number ns ms (number x) is))
    (of_both number ns ms xs (tail_by (has ns (number x)) x (own number ns xs) h)
    (tail_by (has ms (number x)) x (own number ms xs) k))

pub of_none : {E : Type 0} (number : E → ℕ) (xs : List E) → own number [] xs ≡ []
of_none number [] = refl
of_none number (x ∷ xs) = of_none number xs

-- of two cuts of one list the earlier leaves more
pub suffix : {E : Type 0} (a b c d : List E) → a ++ b ≡ c ++ d → length a ≤ length c → (m : List E) × (b ≡ m ++ d)
suffix [] b c d e le = (c, e)
suffix (x ∷ a) b [] d e le = absurd (omega arith)
suffix (x ∷ a) b (y ∷ c) d e le = suffix a b c d (cc e) (omega arith)

has_by : (b c d : Bool) → (c ≡ true → d ≡ true) → (if b then true else c) ≡ true → (if b then true else d) ≡ true
has_by true c d h e = refl
has_by false c d h e = h e

pub has_left : (ns ms : List ℕ) (n : ℕ) → has ns n ≡ true → has (ns ++ ms) n ≡ true
has_left [] ms n h = absurd (false≢true h)
has_left (k ∷ ns) ms n h = has_by (k == n) (has ns n) (has (ns ++ ms) n) (has_left ns ms n) h

over : (b c : Bool) → c ≡ true → (if b then true else c) ≡ true
over true c h = refl
over false c h = h

pub has_right : (ns ms : List ℕ) (n : ℕ) → has ms n ≡ true → has (ns ++ ms) n ≡ true
has_right [] ms n h = h
has_right (k ∷ ns) ms n h = over (k == n) (has (ns ++ ms) n) (has_right ns ms n h)

front_by : {E : Type 0} (b : Bool) (e : E) (xs ys : List E) → (if b then e ∷ xs else xs) ≡ [] → ys ≡ []
    → (if b then e ∷ ys else ys) ≡ []
front_by true e xs ys h k = let n = ap length h in absurd (omega arith)
front_by false e xs ys h k = k

-- a list without entries of these numbers begins without them
pub of_front : {E : Type 0} (number : E → ℕ) (ns : List ℕ) (xs ys : List E) → own number ns (xs ++ ys) ≡ []
    → own number ns xs ≡ []
of_front number ns [] ys h = refl
of_front number ns (x ∷ xs) ys h = front_by (has ns (number x)) x (own number ns (xs ++ ys)) (own number ns xs) h
    (of_front number ns xs ys (tail_by (has ns (number x)) x (own number ns (xs ++ ys)) h))

-- of two cuts of one list the later begins with the earlier
pub cuts : {E : Type 0} (a b c d : List E) → a ++ b ≡ c ++ d → length a ≤ length c
    → (m : List E) × (c ≡ a ++ m) × (b ≡ m ++ d)
cuts [] b c d e le = (c, refl, e)
cuts (x ∷ a) b [] d e le = absurd (omega arith)
cuts (x ∷ a) b (y ∷ c) d e le =
    let heads : y ≡ x = cc e in
    let t = cuts a b c d (cc e) (omega arith) in
    (t.0, cc (heads, t.1), t.2)

longer_by : {E : Type 0} (b : Bool) (xs ys : List E) → leb (length xs) (length ys) ≡ b
    → (length xs ≤ length (if b then ys else xs)) × (length ys ≤ length (if b then ys else xs))
longer_by true xs ys is = (grind (arith, nat_tests), omega arith)
longer_by false xs ys is = (omega arith, grind (arith, nat_tests))

pub longer_than : {E : Type 0} (xs ys : List E) → (length xs ≤ length (longer xs ys))
    × (length ys ≤ length (longer xs ys))
longer_than xs ys = longer_by (leb (length xs) (length ys)) xs ys refl

one_by : {E : Type 0} (b : Bool) (xs ys : List E) → ((if b then ys else xs) ≡ xs) ⊎ ((if b then ys else xs) ≡ ys)
one_by true xs ys = inr refl
one_by false xs ys = inl refl

pub longer_is : {E : Type 0} (xs ys : List E) → (longer xs ys ≡ xs) ⊎ (longer xs ys ≡ ys)
longer_is xs ys = one_by (leb (length xs) (length ys)) xs ys

-- an entry of a number that is not the view's makes no part less fit
pub parts_more : {E : Type 0} (number : E → ℕ) (ns : List ℕ) (h : List E) (e : E) (ps : List (List ℕ × List E))
    → (has ns (number e) ≡ true → ⊥) → PartsKnow number h ns ps → PartsKnow number (h ++ e ∷ []) ns ps
parts_more number ns h e [] out fit = tt
parts_more {E} number ns h e (p ∷ ps) out fit =
    let f = fit.0 in (
      (
        f.0 ++ e ∷ [],
        ap (λ (l : List E). l ++ e ∷ []) f.1 ∙
            append_assoc p.1 f.0 (e ∷ []),
        of_skip number p.0 f.0 e (λ t. out (f.3 (number e) t)) ∙
            f.2,
        f.3,
      ),
      parts_more number ns h e ps out fit.1,
    )

pub of_self : (n : ℕ) → has (n ∷ []) n ≡ true
of_self n = head_by (n == n) n n refl refl

counted_by : (b : Bool) (n k : ℕ) → (if b then 1 + (n + k) else n + k) ≡ (if b then 1 + n else n) + k
counted_by true n k = omega arith
counted_by false n k = refl

-- a number stands in two lists as often as in both
pub times_append : (n : ℕ) (ns ms : List ℕ) → times n (ns ++ ms) ≡ times n ns + times n ms
times_append n [] ms = omega arith
times_append n (k ∷ ns) ms = ap (λ (t : ℕ). if k == n then 1 + t else t) (times_append n ns ms) ∙
    counted_by (k == n) (times n ns) (times n ms)

-- a number that is not there stands there no time
pub times_none : (n : ℕ) (ns : List ℕ) → (has ns n ≡ true → ⊥) → times n ns ≡ 0
times_none n [] out = refl
times_none n (k ∷ ns) out = step (k == n) (has ns n) out (times_none n ns)
  where
    step : (b c : Bool) → ((if b then true else c) ≡ true → ⊥) → ((c ≡ true → ⊥) → times n ns ≡ 0)
        → (if b then 1 + times n ns else times n ns) ≡ 0
    step true c out none = absurd (out refl)
    step false c out none = none out

-- once, for a list of one
pub times_one : (n : ℕ) → times n (n ∷ []) ≡ 1
times_one n = by (n == n) refl
  where
    by : (b : Bool) → (n == n) ≡ b → (if b then 1 + 0 else 0) ≡ 1
    by true is = refl
    by false is = grind (arith, nat_tests)

-- of two lists of one origin
pub all_append : {O : Type 0} (o : O) (xs ys : List O) → AreAll o xs → AreAll o ys → AreAll o (xs ++ ys)
all_append o [] ys h k = k
all_append o (x ∷ xs) ys h k = (h.0, all_append o xs ys h.1 k)

-- a beginning as long as the whole is the whole
pub whole_of : {E : Type 0} (h seen rest : List E) → h ≡ seen ++ rest → length h ≤ length seen → seen ≡ h
whole_of h seen [] is le = sym (is ∙ append-nil seen)
whole_of h seen (e ∷ es) is le =
    let n = ap length is in absurd (omega (arith, n, le, length-append seen (e ∷ es)))
