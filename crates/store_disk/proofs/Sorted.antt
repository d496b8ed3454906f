-- The base of a history is sorted, and has entries that it may have.
use Rattle.std.proofs.Common.{◌≡◌, ◌&&◌, ◌<◌, ◌≤◌, ◌∙◌, ap, arith, Bool, cond, Equal, false, Greater, is_lt, Less, List, [], ◌∷◌, map, nat_cmp, None, Ordering, refl, Some, subst, sym, T, true, ℕ}
use Rattle.std.proofs.lemmas.Bool.{cond-true}
use Rattle.std.specs.Cmp.{nat_cmp_total, ranked}
use Rattle.std.specs.FinMap.{entries_sorted, from_entries, get-from_entries}
use Rattle.std.specs.FinMap.Entries.{below_all, find, is_sorted}
use Rattle.std.specs.List.{AllByRecursion}
use Rattle.std.specs.Ordering.{eq_by_cmp}
use Rattle.store_machine.specs.History.{IsBased, IsHistory}
use Rattle.store_machine.specs.declared.machine.History.{History}
use Rattle.store_machine.specs.declared.machine.Status.{Status}

-- in a list of ascending keys each is found
tied : (a : ℕ) → eq_by_cmp nat_cmp a a ≡ true
tied a = grind arith

same-key : (a b : ℕ) → eq_by_cmp nat_cmp a b ≡ true → a ≡ b
same-key a b e = grind (arith, e)

apart : (k a : ℕ) → k < a → eq_by_cmp nat_cmp k a ≡ false
apart k a less = grind (arith, less)

pub both-hold : (a b : Bool) → T (a && b) → T a × T b
both-hold true b h = (tt, h)
both-hold false b h = absurd h

less-of : (x y : ℕ) (o : Ordering) → o ≡ nat_cmp x y → T (is_lt o) → x < y
less-of x y Less e h = ranked x y Less e
less-of x y Equal e h = absurd h
less-of x y Greater e h = absurd h

-- keys above one
pub all-above : (a : ℕ) (es : List (ℕ × Status)) → T (below_all nat_cmp a es) → AllByRecursion (λ e. a < e.0) es
all-above a [] h = tt
all-above a (e ∷ es) h =
    let parts = both-hold _ _ h in (less-of a e.0 (nat_cmp a e.0) refl parts.0, all-above a es parts.1)

none-some : {X : Type 0} {x : X} → None ≡ Some x → ⊥
none-some e = cc e

not-below : (k a : ℕ) (es : List (ℕ × Status)) → k ≤ a → T (below_all nat_cmp a es) → find nat_cmp k es ≡ None
not-below k a [] le h = refl
not-below k a (e ∷ es) le h =
    let parts = both-hold _ _ h in
    let less = less-of a e.0 (nat_cmp a e.0) refl parts.0 in
    ap (λ b. cond b (Some e.1) (find nat_cmp k es)) (apart k e.0 (omega (arith, le, less)))
    ∙ not-below k a es le parts.1

found-behind : (e : ℕ × Status) (es : List (ℕ × Status)) (q : ℕ) (x : Status) → T (below_all nat_cmp e.0 es)
    → find nat_cmp q es ≡ Some x → find nat_cmp q (e ∷ es) ≡ Some x
found-behind e es q x above is = go (eq_by_cmp nat_cmp q e.0) refl
  where
    go : (b : Bool) → eq_by_cmp nat_cmp q e.0 ≡ b → cond b (Some e.1) (find nat_cmp q es) ≡ Some x
    go true same =
        let le = same-key q e.0 same in
        absurd (none-some (sym (not-below q e.0 es (omega (arith, le)) above) ∙ is))
    go false other = is

all-found : (P : ℕ × Status → Type 0) (es : List (ℕ × Status)) → T (is_sorted nat_cmp es)
    → ((q : ℕ) (x : Status) → find nat_cmp q es ≡ Some x → P (q, x)) → AllByRecursion P es
all-found P [] sorted each = tt
all-found P (e ∷ es) sorted each =
    let parts = both-hold _ _ sorted in (
      each e.0 e.1 (cond-true (eq_by_cmp nat_cmp e.0 e.0) (Some e.1) (find nat_cmp e.0 es) (tied e.0)),
      all-found P es parts.1 (λ q x is. each q x (found-behind e es q x parts.0 is)),
    )

-- the base of a history is sorted, and each of its entries is one that it may have
pub base-sorted : (h : History) → IsHistory h → T (is_sorted nat_cmp h.base)
base-sorted h good = subst (λ l. T (is_sorted nat_cmp l)) good.base (entries_sorted (from_entries {R = nat_cmp} h.base))

pub base-has : (h : History) → IsHistory h → (P : ℕ × Status → Type 0)
    → ((id : ℕ) (status : Status) → IsBased h.version id status → P (id, status)) → AllByRecursion P h.base
base-has h good P each = all-found P h.base (base-sorted h good)
    (λ q x is. each q x (good.states q x (get-from_entries nat_cmp_total h.base q ∙ is)))

pub of-mapped : {A B : Type 0} (f : A → B) (P : B → Type 0) (xs : List A) → AllByRecursion P (map f xs)
    → AllByRecursion (λ x. P (f x)) xs
of-mapped f P [] all = tt
of-mapped f P (x ∷ xs) all = (all.0, of-mapped f P xs all.1)
