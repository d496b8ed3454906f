-- The pair of an identifier's latest entry ends at a later version.
use Rattle.std.proofs.Common.{◌≡◌, ◌≢◌, ◌==◌, ◌<◌, ◌≤◌, ◌∙◌, All, ap, arith, Contains, eq-eqb, eqb-true, inl, inr, List, [], ◌∷◌, None, Some, subst, sym, true, ℕ}
use Rattle.std.proofs.lemmas.Bool.{cond_both, true≢false}
use Rattle.std.proofs.lemmas.List.Elements.{All-contains, All-contains_itself, All-map, All-weaker}
use Rattle.std.specs.Arc.{arc_value}
use Rattle.record_versions.specs.Entries.{IsLatest, chain_of}
use Rattle.screen_index.specs.Pairs.{ends_at, rank, rank_of, superseded}
use Rattle.screen_index.specs.declared.entry.Screened.{Screened}
use Rattle.store_core.specs.Kept.{AreIndexed, Chains, IsOf, Kept}
use Rattle.store_core.specs.Records.{Shared}
use Rattle.store_core.proofs.Indexed.{earlier, same-id, same-version}
use Rattle.store_machine.proofs.Members.{contains-here, contains-split, contains-there}

module _ (at until : ℕ) where
  -- of one pair
  ended : (P : Screened Shared → Type 0) (x : Screened Shared) → (rank_of x ≡ at → P (record x { until = until }))
      → (rank_of x ≢ at → P x) → P (ends_at at until x)
  ended P x there elsewhere =
      cond_both (rank_of x == at) (record x { until = until }) x P (λ t. there (eqb-true (rank_of x) at t))
      (λ f. elsewhere (λ e. true≢false (sym (eq-eqb (rank_of x) at e) ∙ f)))

  all-ended : (P : Screened Shared → Type 0) (xs : List (Screened Shared))
      → ((x : Screened Shared) → Contains xs x → rank_of x ≡ at → P (record x { until = until }))
      → ((x : Screened Shared) → Contains xs x → rank_of x ≢ at → P x) → All P (superseded at until xs)
  all-ended P xs there elsewhere =
      All-map P (ends_at at until) xs
      (All-weaker (Contains xs) (λ x. P (ends_at at until x)) (λ x c. ended P x (there x c) (elsewhere x c)) xs
      (All-contains_itself xs))

  ended-in : (xs : List (Screened Shared)) (x : Screened Shared) → Contains xs x
      → Contains (superseded at until xs) (ends_at at until x)
  ended-in [] x c = absurd (omega (arith, c.1))
  ended-in (y ∷ ys) x c =
      elim (contains-split y x ys c) [
        | inl e ↦ contains-here (ends_at at until y) (ends_at at until x) (superseded at until ys)
            (ap (ends_at at until) e)
        | inr d ↦ contains-there (ends_at at until y) (ends_at at until x) (superseded at until ys)
            (ended-in ys x d)
      ]

module _ (chains : Chains) (xs : List (Screened Shared)) (id version : ℕ)
    (later : All (λ (k : Kept). k.version < version) (chain_of chains id)) (h : AreIndexed chains xs) where
  -- the identifier has no entry
  pub none-ends : IsLatest version (chain_of chains id) None
      → All (λ (x : Screened Shared). x.id ≡ id → x.until ≤ version) xs
  none-ends none =
      All-weaker (Contains xs) (λ (x : Screened Shared). x.id ≡ id → x.until ≤ version)
      (λ x c same.
      let below = earlier chains xs id version later h x c same in
      let o = h.only x c in
      let above = All-contains (λ (k : Kept). version < k.version) (chain_of chains id) _ none
      (subst (λ q. Contains (chain_of chains q) (record { version = x.version; value = Some o.own })) same o.there) in
      absurd (omega (arith, below, above))) xs (All-contains_itself xs)

module _ (chains : Chains) (xs : List (Screened Shared)) (id version : ℕ) (k : Kept)
    (later : All (λ (l : Kept). l.version < version) (chain_of chains id)) (few : version < 4294967296)
    (latest : IsLatest version (chain_of chains id) (Some k)) (h : AreIndexed chains xs) where
  abbrev place : ℕ
  place = rank id k.version

  before : k.version < version
  before = All-contains (λ (l : Kept). l.version < version) (chain_of chains id) k later latest.0

  -- the pair of the latest entry
  its-id : (x : Screened Shared) → Contains xs x → rank_of x ≡ place → x.id ≡ id
  its-id x c e = same-id x.id id x.version k.version (h.versions x c) (let b = before in omega (arith, b, few)) e

  its-version : (x : Screened Shared) → Contains xs x → rank_of x ≡ place → x.version ≡ k.version
  its-version x c e =
      same-version x.id id x.version k.version (h.versions x c) (let b = before in omega (arith, b, few)) e

  of-ended : (x : Screened Shared) → Contains xs x → rank_of x ≡ place → IsOf chains (record x { until = version })
  of-ended x c e =
      let o = h.only x c in record {
        own = o.own;
        there = o.there;
        value = o.value;
        until = λ l d above.
            let there = subst (λ q. Contains (chain_of chains q) l) (its-id x c e) d in
            let low = All-contains (λ (m : Kept). m.version < version) (chain_of chains id) l later there in
            let top = latest.2 l there (omega (arith, low)) in
            absurd (omega (arith, top, above, its-version x c e));
      }

  pub superseded-indexed : AreIndexed chains (superseded place version xs)
  superseded-indexed = record {
    ascending = h.ascending;
    versions = λ y. All-contains (λ (x : Screened Shared). x.version < 4294967296) (superseded place version xs) y
        (all-ended place version (λ x. x.version < 4294967296) xs (λ x c _. h.versions x c) (λ x c _. h.versions x c));
    prints = λ y. All-contains (λ (x : Screened Shared). x.print ≡ (arc_value x.value).print)
        (superseded place version xs) y
        (all-ended place version (λ x. x.print ≡ (arc_value x.value).print) xs (λ x c _. h.prints x c)
        (λ x c _. h.prints x c));
    only = λ y. All-contains (IsOf chains) (superseded place version xs) y
        (all-ended place version (IsOf chains) xs of-ended (λ x c _. h.only x c));
    all = λ q v r c.
        let a = h.all q v r c in (
          ends_at place version a.0,
          ended-in place version xs a.0 a.1,
          ended place version (λ x. x.id ≡ q) a.0 (λ _. a.2) (λ _. a.2),
          ended place version (λ x. x.version ≡ v) a.0 (λ _. a.3) (λ _. a.3),
        );
  }

  pub superseded-ends : All (λ (x : Screened Shared). x.id ≡ id → x.until ≤ version) (superseded place version xs)
  superseded-ends =
      all-ended place version (λ x. x.id ≡ id → x.until ≤ version) xs (λ x c e same. omega arith)
      (λ x c apart same.
      let o = h.only x c in
      let low = earlier chains xs id version later h x c same in
      let top = latest.2 (record { version = x.version; value = Some o.own })
      (subst (λ q. Contains (chain_of chains q) (record { version = x.version; value = Some o.own })) same o.there)
      (omega (arith, low)) in
      let ends = o.until k (subst (λ q. Contains (chain_of chains q) k) (sym same) latest.0) (below x top same apart) in
      let b = before in
      omega (arith, ends, b))
    where
      below : (x : Screened Shared) → x.version ≤ k.version → x.id ≡ id → rank_of x ≢ place → x.version < k.version
      below x top same apart = omega (arith, top, same, apart)
