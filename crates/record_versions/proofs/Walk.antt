-- A walk over chains in the order of identifiers, for the least dead entry.
use Rattle.std.proofs.Common.{◌≡◌, ◌==◌, ◌+◌, ◌<◌, ◌≤◌, ◌∙◌, ap, arith, Bool, cond, Contains, false, filter, get_or, length, List, [], ◌∷◌, inl, inr, nat_cmp, None, Option, refl, Some, subst, suc, sym, true, ℕ}
use Rattle.std.proofs.lemmas.Bool.{cases_lt}
use Rattle.std.proofs.lemmas.Bool.Decides.{nat_tests}
use Rattle.std.proofs.lemmas.List.Kept.{AllPairs-from_increasing}
use Rattle.std.proofs.lemmas.Map.Entries.{lookup-filter-keys}
use Rattle.std.proofs.lemmas.Map.Keys.{IsStrictlyIncreasing-from_sorted}
use Rattle.std.specs.BTreeMap.{is_at}
use Rattle.std.specs.BTreeMap.Range.{entries_between, range_contains}
use Rattle.std.specs.List.{AllPairs}
use Rattle.std.specs.List.Sorted.{IsStrictlySortedBy}
use Rattle.std.specs.Map.{keys_of}
use Rattle.std.specs.declared.ops.Bound.TheVariants.{Included, Unbounded}
use Rattle.record_versions.specs.Entries.{IsDead, IsLeastDead, IsLeastId, IsLeastUnread, IsRead, IsUpTo, chain_of, entries_in, row_of}
use Rattle.record_versions.specs.Rows.{Row}
use Rattle.record_versions.specs.Ahead.{Rise}
use Rattle.record_versions.specs.declared.entries.Entry.{Entry}

pub same-at : (a b : ℕ) → is_at (nat_cmp a) b ≡ true → a ≡ b
same-at a b t = grind (arith, nat_tests)

at-same : (a : ℕ) → is_at (nat_cmp a) a ≡ true
at-same a = grind (arith, nat_tests)

at-other : (a b : ℕ) → b < a → is_at (nat_cmp a) b ≡ false
at-other a b less = grind (arith, nat_tests)

from-on : (a b : ℕ) → range_contains nat_cmp (Included a) Unbounded b ≡ true → a ≤ b
from-on a b t = grind (arith, nat_tests)

on-from : (a b k : ℕ) → a ≤ b → is_at (nat_cmp b) k ≡ true → range_contains nat_cmp (Included a) Unbounded k ≡ true
on-from a b k le t = let same = same-at b k t in grind (arith, nat_tests)

module _ {V : Type 0} where
  pub lower : (a b : ℕ) (es : List (ℕ × Row V)) → a ≤ b → Rise b es → Rise a es
  lower a b [] le up = tt
  lower a b (e ∷ es) le up = (let h = up.0 in omega (arith, le, h), up.1)

  some-rise : (p : ℕ → Bool) (a : ℕ) (es : List (ℕ × Row V)) → Rise a es → Rise a (filter (λ e. p e.0) es)
  some-rise p a [] up = tt
  some-rise p a (e ∷ es) up = go (some-rise p (e.0 + 1) es up.1) (p e.0)
    where
      go : Rise (e.0 + 1) (filter (λ x. p x.0) es) → (b : Bool) → Rise a (cond b (e ∷ filter (λ x. p x.0) es) (filter (λ x. p x.0) es))
      go more true = (up.0, more)
      go more false = lower a (e.0 + 1) (filter (λ x. p x.0) es) (let h = up.0 in omega (arith, h)) more

  abbrev pub Between : ℕ → List (ℕ × Row V) → List (ℕ × Row V)
  Between a es = entries_between nat_cmp (Included a) Unbounded es

  pub between-rises : (a b : ℕ) (es : List (ℕ × Row V)) → Rise b es → Rise a (Between a es)
  between-rises a b [] up = tt
  between-rises a b (e ∷ es) up =
      go (between-rises a (e.0 + 1) es up.1) (range_contains nat_cmp (Included a) Unbounded e.0) refl
    where
      go : Rise a (Between a es) → (t : Bool) → range_contains nat_cmp (Included a) Unbounded e.0 ≡ t
          → Rise a (cond t (e ∷ Between a es) (Between a es))
      go more true is = (from-on a e.0 is, some-rise (range_contains nat_cmp (Included a) Unbounded) (e.0 + 1) es up.1)
      go more false is = more

  rise-from : (a : ℕ) (es : List (ℕ × Row V)) → ((k d : ℕ) → k < length (keys_of es) → a ≤ get_or (keys_of es) k d)
      → AllPairs (λ x y. x < y) (keys_of es) → Rise a es
  rise-from a [] low up = tt
  rise-from a (e ∷ es) low up = (
    low 0 0 (omega arith),
    rise-from (e.0 + 1) es (λ k d less. let h = up 0 (suc k) d (omega arith) (omega (arith, less)) in omega (arith, h))
        (λ i j d less within. up (suc i) (suc j) d (omega (arith, less)) (omega (arith, within))),
  )

  pub rises : (es : List (ℕ × Row V)) → IsStrictlySortedBy nat_cmp (keys_of es) → Rise 0 es
  rises es sorted = rise-from 0 es (λ k d less. omega arith)
      (AllPairs-from_increasing (keys_of es) (IsStrictlyIncreasing-from_sorted (keys_of es) sorted))

  -- an identifier with an entry is not below them
  has-entry : (a : ℕ) (es : List (ℕ × Row V)) (id : ℕ) (k : Entry V) → Rise a es → Contains (chain_of es id) k → a ≤ id
  has-entry a [] id k up c = absurd (omega (arith, c.1))
  has-entry a (e ∷ es) id k up c = go (λ d. has-entry (e.0 + 1) es id k up.1 d) (is_at (nat_cmp id) e.0) refl c
    where
      go : (Contains (chain_of es id) k → e.0 + 1 ≤ id) → (b : Bool) → is_at (nat_cmp id) e.0 ≡ b → Contains (entries_in (cond b (Some e.1) (row_of es id))) k → a ≤ id
      go more true t d = let h = up.0 in omega (arith, h, same-at id e.0 t)
      go more false t d = let h = more d in let l = up.0 in omega (arith, h, l)

  pub first-chain : (e : ℕ × Row V) (es : List (ℕ × Row V)) (id : ℕ) → id ≡ e.0 → chain_of (e ∷ es) id ≡ e.1.entries
  first-chain e es id same =
      ap (λ b. entries_in (cond b (Some e.1) (row_of es id)))
      (ap (λ n. is_at (nat_cmp n) e.0) same ∙ at-same e.0)

  pub rest-chain : (e : ℕ × Row V) (es : List (ℕ × Row V)) (id : ℕ) → e.0 < id → chain_of (e ∷ es) id ≡ chain_of es id
  rest-chain e es id above = ap (λ b. entries_in (cond b (Some e.1) (row_of es id))) (at-other id e.0 above)

  pub chain-between : (a id : ℕ) → a ≤ id → (all left : List (ℕ × Row V)) → left ≡ Between a all
      → chain_of left id ≡ chain_of all id
  chain-between a id le all left is =
      ap (λ l. chain_of l id) is
      ∙ ap entries_in (lookup-filter-keys (is_at (nat_cmp id)) (range_contains nat_cmp (Included a) Unbounded)
      true (λ k t. on-from a id k le t) all)

  -- an entry of a chain that is dead there is dead among them, and so is no other
  abbrev DeadIn : List ℕ → List (Entry V) → ℕ → Type 0
  DeadIn live ks version = (k : Entry V) × Contains ks k × (k.version ≡ version) × ¬ IsRead live ks k

  -- what is least of the chains that are left is least of all
  abbrev pub GoesOn : List ℕ → ℕ × ℕ → List (ℕ × Row V) → List (ℕ × Row V) → Type 0
  GoesOn live from all left = (r : Option (ℕ × ℕ)) → IsLeastDead live from left r → IsLeastDead live from all r

  same-dead : (live : List ℕ) (from : ℕ × ℕ) (all left : List (ℕ × Row V))
      → ((p : ℕ × ℕ) → IsUpTo from p → IsDead live left p → IsDead live all p)
      → ((p : ℕ × ℕ) → IsUpTo from p → IsDead live all p → IsDead live left p) → GoesOn live from all left
  same-dead live from all left there back None none = λ p up dead. none p up (back p up dead)
  same-dead live from all left there back (Some d) (up, dead, least) =
      (up, there d up dead, λ p later other. least p later (back p later other))

  pub begins : (live : List ℕ) (from : ℕ × ℕ) (all left : List (ℕ × Row V)) → left ≡ Between from.0 all
      → GoesOn live from all left
  begins live from all left is =
      same-dead live from all left
      (λ p up dead. subst (λ ks. DeadIn live ks p.1) (chain-between from.0 p.0 up.0 all left is) dead)
      (λ p up dead. subst (λ ks. DeadIn live ks p.1) (sym (chain-between from.0 p.0 up.0 all left is)) dead)

  -- a chain without dead entries is passed by
  pub passed-by : (live : List ℕ) (from : ℕ × ℕ) (all rest : List (ℕ × Row V)) (e : ℕ × Row V)
      → Rise from.0 (e ∷ rest)
      → IsLeastUnread live (cond (e.0 == from.0) from.1 0) e.1.entries None → GoesOn live from all (e ∷ rest)
      → GoesOn live from all rest
  passed-by live from all rest e up none go r least =
      go r (same-dead live from (e ∷ rest) rest there back r least)
    where
      first-on : (from p : ℕ × ℕ) (id version : ℕ) → IsUpTo from p → p.0 ≡ id → version ≡ p.1
          → cond (id == from.0) from.1 0 ≤ version
      first-on from p id version later same is = grind (arith, nat_tests)

      there : (p : ℕ × ℕ) → IsUpTo from p → IsDead live rest p → IsDead live (e ∷ rest) p
      there p later dead =
          let above = has-entry (e.0 + 1) rest p.0 dead.0 up.1 dead.1 in
          subst (λ ks. DeadIn live ks p.1) (sym (rest-chain e rest p.0 (omega (arith, above)))) dead

      back : (p : ℕ × ℕ) → IsUpTo from p → IsDead live (e ∷ rest) p → IsDead live rest p
      back p later dead = step (is_at (nat_cmp p.0) e.0) refl dead
        where
          step : (b : Bool) → is_at (nat_cmp p.0) e.0 ≡ b
              → DeadIn live (entries_in (cond b (Some e.1) (row_of rest p.0))) p.1 → IsDead live rest p
          step true t (k, member, version, unread) =
              absurd (unread (none k member (first-on from p e.0 k.version later (same-at p.0 e.0 t) version)))
          step false t d = d

  -- the first dead entry of the first chain that has one
  pub found : (live : List ℕ) (from : ℕ × ℕ) (all rest : List (ℕ × Row V)) (e : ℕ × Row V) (version : ℕ)
      → Rise from.0 (e ∷ rest)
      → IsLeastUnread live (cond (e.0 == from.0) from.1 0) e.1.entries (Some version) → GoesOn live from all (e ∷ rest)
      → IsLeastDead live from all (Some (e.0, version))
  found live from all rest e version up (low, dead, least) go = go (Some (e.0, version)) (
    (up.0, λ same. above from e.0 version low same),
    subst (λ ks. DeadIn live ks version) (sym (first-chain e rest e.0 refl)) dead,
    λ p later other. (has-entry e.0 (e ∷ rest) p.0 other.0 (omega arith, up.1) other.1, λ same. before p later other same),
  )
    where
      above : (from : ℕ × ℕ) (id version : ℕ) → cond (id == from.0) from.1 0 ≤ version → from.0 ≡ id → from.1 ≤ version
      above from id version le same = grind (arith, nat_tests)

      on : (from p : ℕ × ℕ) (id version : ℕ) → IsUpTo from p → id ≡ p.0 → version ≡ p.1
          → cond (id == from.0) from.1 0 ≤ version
      on from p id version later same is = grind (arith, nat_tests)

      before : (p : ℕ × ℕ) → IsUpTo from p → IsDead live (e ∷ rest) p → e.0 ≡ p.0 → version ≤ p.1
      before p later other same = step (subst (λ ks. DeadIn live ks p.1) (first-chain e rest p.0 (sym same)) other)
        where
          step : DeadIn live e.1.entries p.1 → version ≤ p.1
          step (k, member, is, unread) =
              elim (cases_lt p.1 version) [
                | inl lt ↦ absurd (unread (least k member (on from p e.0 k.version later same is) (omega (arith, lt, is))))
                | inr ge ↦ ge
              ]

  -- where no chain is left none is dead
  pub at-end : (live : List ℕ) (from : ℕ × ℕ) (all : List (ℕ × Row V)) → GoesOn live from all []
      → IsLeastDead live from all None
  at-end live from all go = go None (λ p up dead. omega (arith, dead.1.1))

  -- an identifier has an entry, or none
  some-or-none : (chains : List (ℕ × Row V)) (id : ℕ) → ((k : Entry V) → Contains (chain_of chains id) k → ⊥)
      → chain_of chains id ≡ []
  some-or-none chains id none = go (chain_of chains id) none
    where
      go : (ks : List (Entry V)) → ((k : Entry V) → Contains ks k → ⊥) → ks ≡ []
      go [] none = refl
      go (k ∷ ks) none = absurd (none k (0, omega arith, refl))

  -- where nothing is read each entry is dead
  all-dead : (chains : List (ℕ × Row V)) (id : ℕ) (k : Entry V) → Contains (chain_of chains id) k
      → IsDead [] chains (id, k.version)
  all-dead chains id k there = (k, there, refl, λ r. let c = r.1.1 in omega (arith, c))

  pub no-id : (from : ℕ) (chains : List (ℕ × Row V)) → IsLeastDead [] (from, 0) chains None → IsLeastId from chains None
  no-id from chains none id later = some-or-none chains id
      (λ k there. none (id, k.version) (later, λ e. omega arith) (all-dead chains id k there))

  pub least-id : (from id version : ℕ) (chains : List (ℕ × Row V))
      → IsLeastDead [] (from, 0) chains (Some (id, version)) → IsLeastId from chains (Some id)
  least-id from id version chains (up, dead, least) = (
    up.0,
    λ e. let c = (subst (λ ks. Contains ks dead.0) e dead.1).1 in omega (arith, c),
    λ q later less. some-or-none chains q
        (λ k there. let le = (least (q, k.version) (later, λ e. omega arith) (all-dead chains q k there)).0 in
        omega (arith, le, less)),
  )
