-- An index of the entries that have a record: an entry more, one taken out, and the next that is wanted.
use Rattle.std.proofs.Common.{◌≡◌, ◌≢◌, ◌+◌, ◌*◌, ◌++◌, ◌==◌, ◌&&◌, ◌<◌, ◌≤◌, ◌⊎◌, ◌∙◌, All, ap, arith, Bool, cond, Contains, eq-eqb, eqb-true, false, filter, get_or, IfSome, inl, inr, is_some, IsSome, List, [], ◌∷◌, nat_lt, None, not, Option, option_map, refl, Some, subst, sym, true, ℕ}
use Rattle.std.proofs.lemmas.Bool.{cond-false, cond-true, ne_eqb, true≢false}
use Rattle.std.proofs.lemmas.List.Elements.{All-contains, Contains-append_left, Contains-get_or, Contains-push, Contains-push_cases}
use Rattle.std.proofs.lemmas.List.Kept.{AllPairs-filter}
use Rattle.std.proofs.lemmas.Option.{none-some, same_Some}
use Rattle.std.specs.Arc.{arc_value}
use Rattle.std.specs.List.{AllPairs}
use Rattle.record_versions.specs.Entries.{chain_of, is_other}
use Rattle.screen_index.specs.Pairs.{Holds, IsNext, IsWanted, Lacks, is_apart, new_pair, put_in, rank, rank_of}
use Rattle.screen_index.specs.declared.entry.Screened.{Screened}
use Rattle.store_core.specs.Kept.{AreIndexed, Chains, HasPrint, IsCandidate, IsNextId, IsOf, Kept}
use Rattle.store_core.specs.Records.{RecordTerm, Shared}
use Rattle.store_core.proofs.Candidates.{of-fewer, of-version, own-print}
use Rattle.store_core.proofs.Dead.{Takes, taken-has, taken-in, which}
use Rattle.store_core.proofs.Taken.{cases-same, filtered-has, filtered-in, pairs-push}
use Rattle.store_machine.proofs.Members.{contains-here, contains-split, contains-there}

-- a pair that was put in
module _ {V : Type 0} where
  put-has : (x : Screened V) (xs : List (Screened V)) (y : Screened V) → Contains (put_in x xs) y
      → (x ≡ y) ⊎ Contains xs y
  put-has x [] y c = contains-split x y [] c
  put-has x (z ∷ zs) y c = go (λ d. put-has x zs y d) (nat_lt (rank_of x) (rank_of z)) c
    where
      go : (Contains (put_in x zs) y → (x ≡ y) ⊎ Contains zs y) → (b : Bool)
          → Contains (cond b (x ∷ z ∷ zs) (z ∷ put_in x zs)) y → (x ≡ y) ⊎ Contains (z ∷ zs) y
      go rest true d = contains-split x y (z ∷ zs) d
      go rest false d =
          elim (contains-split z y (put_in x zs) d) [
            | inl e ↦ inr (contains-here z y zs e)
            | inr f ↦ elim (rest f) [ inl e ↦ inl e | inr g ↦ inr (contains-there z y zs g) ]
          ]

  put-here : (x : Screened V) (xs : List (Screened V)) → Contains (put_in x xs) x
  put-here x [] = contains-here x x [] refl
  put-here x (z ∷ zs) = go (put-here x zs) (nat_lt (rank_of x) (rank_of z))
    where
      go : Contains (put_in x zs) x → (b : Bool) → Contains (cond b (x ∷ z ∷ zs) (z ∷ put_in x zs)) x
      go rest true = contains-here x x (z ∷ zs) refl
      go rest false = contains-there z x (put_in x zs) rest

  put-there : (x : Screened V) (xs : List (Screened V)) (y : Screened V) → Contains xs y → Contains (put_in x xs) y
  put-there x [] y c = absurd (omega (arith, c.1))
  put-there x (z ∷ zs) y c = go (λ d. put-there x zs y d) (nat_lt (rank_of x) (rank_of z))
    where
      go : (Contains zs y → Contains (put_in x zs) y) → (b : Bool) → Contains (cond b (x ∷ z ∷ zs) (z ∷ put_in x zs)) y
      go rest true = contains-there x y (z ∷ zs) c
      go rest false =
          elim (contains-split z y zs c)
          [ inl e ↦ contains-here z y (put_in x zs) e | inr d ↦ contains-there z y (put_in x zs) (rest d) ]

-- one place has one identifier and one version
pub same-id : (a b i j : ℕ) → i < 4294967296 → j < 4294967296 → a * 4294967296 + i ≡ b * 4294967296 + j → a ≡ b
same-id a b i j less within e = omega (arith, less, within, e)

pub same-version : (a b i j : ℕ) → i < 4294967296 → j < 4294967296 → a * 4294967296 + i ≡ b * 4294967296 + j → i ≡ j
same-version a b i j less within e = omega (arith, less, within, e)

id-up-to : (a b i j : ℕ) → j < 4294967296 → a * 4294967296 + i ≤ b * 4294967296 + j → a ≤ b
id-up-to a b i j less le = omega (arith, less, le)

-- the chains are the same
pub indexed-still : (old new : Chains) (xs : List (Screened Shared)) → ((q : ℕ) → chain_of new q ≡ chain_of old q)
    → AreIndexed old xs → AreIndexed new xs
indexed-still old new xs same h = record {
  ascending = λ id. subst (AllPairs (λ (k l : Kept). k.version < l.version)) (sym (same id)) (h.ascending id);
  versions = h.versions;
  prints = h.prints;
  only = λ x c. let o = h.only x c in of-fewer old x o new (subst (λ ks. Contains ks (record
      { version = x.version; value = Some o.own })) (sym (same x.id)) o.there)
      (λ k d. subst (λ ks. Contains ks k) (same x.id) d);
  all = λ id version r c. h.all id version r
      (subst (λ ks. Contains ks (record { version = version; value = Some r })) (same id) c);
}

-- a pair is of an earlier entry than one that is later than all of its identifier's
pub earlier : (chains : Chains) (xs : List (Screened Shared)) (id version : ℕ)
    → All (λ (l : Kept). l.version < version) (chain_of chains id) → AreIndexed chains xs
    → (x : Screened Shared) → Contains xs x → x.id ≡ id → x.version < version
earlier chains xs id version later h x c same =
    let o = h.only x c in
    All-contains (λ (l : Kept). l.version < version) (chain_of chains id)
    (record { version = x.version; value = Some o.own }) later
    (subst (λ q. Contains (chain_of chains q) (record { version = x.version; value = Some o.own })) same o.there)

-- so its place is free
pub lacks : (chains : Chains) (xs : List (Screened Shared)) (id version : ℕ)
    → All (λ (l : Kept). l.version < version) (chain_of chains id) → version < 4294967296 → AreIndexed chains xs
    → Lacks (rank id version) xs
lacks chains xs id version later few h i d less e =
    let x = get_or xs i d in
    let c = Contains-get_or xs i d less in
    let below = earlier chains xs id version later h x c
    (same-id x.id id x.version version (h.versions x c) few e) in
    omega (arith, below, same-version x.id id x.version version (h.versions x c) few e)

-- one entry more in the chain of an identifier
abbrev pub Adds : Chains → Chains → ℕ → Kept → Type 0
Adds old new id k = (q : ℕ) → chain_of new q ≡ cond (q == id) (chain_of old id ++ k ∷ []) (chain_of old q)

module _ (old new : Chains) (id : ℕ) (k : Kept) (adds : Adds old new id k) where
  at-id : (q : ℕ) → q ≡ id → chain_of new q ≡ chain_of old q ++ k ∷ []
  at-id q same = adds q ∙ (cond-true (q == id) _ _ (eq-eqb q id same)
      ∙ ap (λ i. chain_of old i ++ k ∷ []) (sym same))

  at-other : (q : ℕ) → q ≢ id → chain_of new q ≡ chain_of old q
  at-other q other = adds q ∙ cond-false (q == id) _ _ (not-eqb (q == id) (λ t. other (eqb-true q id t)))
    where
      not-eqb : (b : Bool) → ¬ (b ≡ true) → b ≡ false
      not-eqb true n = absurd (n refl)
      not-eqb false n = refl

  pub added-has : (q : ℕ) (l : Kept) → Contains (chain_of new q) l → Contains (chain_of old q) l ⊎ ((q ≡ id) × (k ≡ l))
  added-has q l c =
      elim (cases-same q id) [
        | inl same ↦ elim (Contains-push_cases (chain_of old q) k l (subst (λ ks. Contains ks l) (at-id q same) c))
            [ inl d ↦ inl d | inr e ↦ inr (same, e) ]
        | inr other ↦ inl (subst (λ ks. Contains ks l) (at-other q other) c)
      ]

  pub added-there : (q : ℕ) (l : Kept) → Contains (chain_of old q) l → Contains (chain_of new q) l
  added-there q l c =
      elim (cases-same q id) [
        | inl same ↦ subst (λ ks. Contains ks l) (sym (at-id q same))
            (Contains-append_left (chain_of old q) (k ∷ []) l c)
        | inr other ↦ subst (λ ks. Contains ks l) (sym (at-other q other)) c
      ]

  pub added-here : Contains (chain_of new id) k
  added-here = subst (λ ks. Contains ks k) (sym (at-id id refl)) (Contains-push (chain_of old id) k)

  rises : All (λ (l : Kept). l.version < k.version) (chain_of old id)
      → ((q : ℕ) → AllPairs (λ (x y : Kept). x.version < y.version) (chain_of old q))
      → (q : ℕ) → AllPairs (λ (x y : Kept). x.version < y.version) (chain_of new q)
  rises later up q =
      elim (cases-same q id) [
        | inl same ↦ subst (AllPairs (λ (x y : Kept). x.version < y.version)) (sym (at-id q same))
            (pairs-push (λ (x y : Kept). x.version < y.version) (chain_of old q) k (up q)
            (subst (λ i. All (λ (l : Kept). l.version < k.version) (chain_of old i)) (sym same) later))
        | inr other ↦ subst (AllPairs (λ (x y : Kept). x.version < y.version)) (sym (at-other q other)) (up q)
      ]

-- what memory was taken for: a record's print, and a reference to the record
abbrev pub IsPair : Option (List Bool × Shared) → Type 0
IsPair o = IfSome o (λ p. p.0 ≡ (arc_value p.1).print)

-- an entry more, at whose version each pair of its identifier has ended
module _ (old new : Chains) (xs : List (Screened Shared)) (id : ℕ) (k : Kept) (adds : Adds old new id k)
    (later : All (λ (l : Kept). l.version < k.version) (chain_of old id))
    (ends : All (λ (x : Screened Shared). x.id ≡ id → x.until ≤ k.version) xs) (h : AreIndexed old xs) where
  of-more : (x : Screened Shared) → Contains xs x → IsOf new x
  of-more x c =
      let o = h.only x c in record {
        own = o.own;
        there = added-there old new id k adds x.id _ o.there;
        value = o.value;
        until = λ l d above. elim (added-has old new id k adds x.id l d) [
          | inl e ↦ o.until l e above
          | inr e ↦
              let ended = All-contains (λ (y : Screened Shared). y.id ≡ id → y.until ≤ k.version) xs x ends c e.0 in
              omega (arith, ended, ap (λ (y : Kept). y.version) e.1)
        ];
      }

  -- it has no record
  pub indexed-none : is_some k.value ≡ false → AreIndexed new xs
  indexed-none none = record {
    ascending = rises old new id k adds later h.ascending;
    versions = h.versions;
    prints = h.prints;
    only = of-more;
    all = λ q v r c. elim (added-has old new id k adds q (record { version = v; value = Some r }) c) [
      | inl d ↦ h.all q v r d
      | inr e ↦ absurd (true≢false (sym (ap (λ (x : Kept). is_some x.value) e.1) ∙ none))
    ];
  }

  -- it has one, whose pair is put in
  module _ (r : Shared) (is : k.value ≡ Some r) (few : k.version < 4294967296) (p : List Bool × Shared)
      (print : p.0 ≡ (arc_value p.1).print) (value : arc_value p.1 ≡ arc_value r) where
    abbrev pair : Screened Shared
    pair = new_pair id k.version p.0 p.1

    of-new : IsOf new pair
    of-new = record {
      own = r;
      there = subst (λ o. Contains (chain_of new id) (record { version = k.version; value = o })) is
          (added-here old new id k adds);
      value = value;
      until = λ l d above. elim (added-has old new id k adds id l d) [
        | inl e ↦
            let below = All-contains (λ (m : Kept). m.version < k.version) (chain_of old id) l later e in
            absurd (omega (arith, below, above))
        | inr e ↦ absurd (omega (arith, above, ap (λ (m : Kept). m.version) e.1))
      ];
    }

    indexed-some : AreIndexed new (put_in pair xs)
    indexed-some = record {
      ascending = rises old new id k adds later h.ascending;
      versions = λ y c. elim (put-has pair xs y c) [
        | inl e ↦ omega (arith, few, ap (λ (z : Screened Shared). z.version) e)
        | inr d ↦ h.versions y d
      ];
      prints = λ y c. elim (put-has pair xs y c) [
        | inl e ↦ subst (λ (z : Screened Shared). z.print ≡ (arc_value z.value).print) e print
        | inr d ↦ h.prints y d
      ];
      only = λ y c. elim (put-has pair xs y c) [ inl e ↦ subst (IsOf new) e of-new | inr d ↦ of-more y d ];
      all = λ q v s c. elim (added-has old new id k adds q (record { version = v; value = Some s }) c) [
        | inl d ↦ let a = h.all q v s d in (a.0, put-there pair xs a.0 a.1, a.2, a.3)
        | inr e ↦ (pair, put-here pair xs, sym e.0, ap (λ (y : Kept). y.version) e.1)
      ];
    }

  -- with what memory was taken for
  pub indexed-more : (o : Option (List Bool × Shared)) (entry : Option Shared) → k.value ≡ entry → IsSome entry
      → IfSome entry (λ r. option_map (λ p. arc_value p.1) o ≡ Some (arc_value r)) → k.version < 4294967296
      → IsPair o → (ys : List (Screened Shared)) → IfSome o (λ p. ys ≡ put_in (new_pair id k.version p.0 p.1) xs)
      → AreIndexed new ys
  indexed-more o None is some value few print ys put = absurd (true≢false (sym some))
  indexed-more None (Some r) is some value few print ys put = absurd (none-some (arc_value r) value)
  indexed-more (Some p) (Some r) is some value few print ys put =
      subst (AreIndexed new) (sym put) (indexed-some r is few p print (same_Some (arc_value p.1) (arc_value r) value))

-- the chain of an entry that was taken out ascends
module _ (now next : Chains) (id version : ℕ) (takes : Takes now next id version) where
  falls : ((q : ℕ) → AllPairs (λ (x y : Kept). x.version < y.version) (chain_of now q))
      → (q : ℕ) → AllPairs (λ (x y : Kept). x.version < y.version) (chain_of next q)
  falls up q =
      elim (which now next id version takes q) [
        | inl e ↦ subst (AllPairs (λ (x y : Kept). x.version < y.version)) (sym e.1)
            (AllPairs-filter (λ (x y : Kept). x.version < y.version) (is_other version) (chain_of now q) (up q))
        | inr e ↦ subst (AllPairs (λ (x y : Kept). x.version < y.version)) (sym e.1) (up q)
      ]

  not-place : (x : Screened Shared) → is_apart ((id, version) ∷ []) x ≡ true → rank_of x ≢ rank id version
  not-place x t e = true≢false (sym t ∙ ap (λ b. not b && true) (eq-eqb (rank_of x) (rank id version) e))

  is-place : (x : Screened Shared) → rank_of x ≢ rank id version → is_apart ((id, version) ∷ []) x ≡ true
  is-place x n = ap (λ b. not b && true) (ne_eqb (rank_of x) (rank id version) n)

  -- its pair is taken out of the index, where there is one
  pub indexed-fewer : (xs : List (Screened Shared)) → version < 4294967296 → AreIndexed now xs
      → AreIndexed next (filter (is_apart ((id, version) ∷ [])) xs)
  indexed-fewer xs few h =
      let apart = is_apart ((id, version) ∷ []) in record {
        ascending = falls h.ascending;
        versions = λ x c. h.versions x (filtered-has apart xs x c).0;
        prints = λ x c. h.prints x (filtered-has apart xs x c).0;
        only = λ x c.
            let f = filtered-has apart xs x c in
            let o = h.only x f.0 in
            of-fewer now x o next
            (taken-in now next id version takes x.id (record { version = x.version; value = Some o.own }) o.there
            (λ same v. not-place x f.1 (omega (arith, ap (λ n. n * 4294967296) same, v))))
            (λ k d. (taken-has now next id version takes x.id k d).0);
        all = λ q v r c.
            let t = taken-has now next id version takes q (record { version = v; value = Some r }) c in
            let a = h.all q v r t.0 in
            let x = a.0 in (
              x,
              filtered-in apart xs x a.1
                  (is-place x (λ e. t.1 (sym a.2 ∙ same-id x.id id x.version version (h.versions x a.1) few e)
                  (sym a.3 ∙ same-version x.id id x.version version (h.versions x a.1) few e))),
              a.2,
              a.3,
            );
      }

-- the places of an index that are taken out in turn
module _ {V : Type 0} where
  apart-both : (ps qs : List (ℕ × ℕ)) (x : Screened V) → is_apart (ps ++ qs) x ≡ (is_apart ps x && is_apart qs x)
  apart-both [] qs x = refl
  apart-both (p ∷ ps) qs x = go (not (rank_of x == rank p.0 p.1)) (apart-both ps qs x)
    where
      go : (b : Bool) → is_apart (ps ++ qs) x ≡ (is_apart ps x && is_apart qs x)
          → (b && is_apart (ps ++ qs) x) ≡ ((b && is_apart ps x) && is_apart qs x)
      go true e = e
      go false e = refl

  pub apart-in-turn : (ps qs : List (ℕ × ℕ)) (xs : List (Screened V))
      → filter (is_apart qs) (filter (is_apart ps) xs) ≡ filter (is_apart (ps ++ qs)) xs
  apart-in-turn ps qs [] = refl
  apart-in-turn ps qs (x ∷ xs) =
      go (is_apart ps x) (is_apart qs x) refl (apart-in-turn ps qs xs)
      ∙ sym (ap (λ (b : Bool). cond b (x ∷ filter (is_apart (ps ++ qs)) xs) (filter (is_apart (ps ++ qs)) xs))
      (apart-both ps qs x))
    where
      two : List (Screened V)
      two = filter (is_apart qs) (filter (is_apart ps) xs)

      both : List (Screened V)
      both = filter (is_apart (ps ++ qs)) xs

      go : (a b : Bool) → is_apart qs x ≡ b → two ≡ both
          → filter (is_apart qs) (cond a (x ∷ filter (is_apart ps) xs) (filter (is_apart ps) xs))
          ≡ cond (a && b) (x ∷ both) both
      go false b is e = e
      go true b is e = ap (λ (t : Bool). cond t (x ∷ two) two) is ∙ ap (λ l. cond b (x ∷ l) l) e

  pub all-stay : (xs : List (Screened V)) → filter (is_apart []) xs ≡ xs
  all-stay [] = refl
  all-stay (x ∷ xs) = ap (λ l. x ∷ l) (all-stay xs)

-- an entry whose print holds what is wanted has a record
record Has (want : List Bool) (o : Option Shared) : Type 0 where
  r : Shared
  is : o ≡ Some r
  holds : Holds (arc_value r).print want

has-record : (want : List Bool) (o : Option Shared) → HasPrint want o → Has want o
has-record want None h = absurd h
has-record want (Some r) h = record { r = r; is = refl; holds = h }

module _ (chains : Chains) (xs : List (Screened Shared)) (want : List Bool) (from : ℕ) (h : AreIndexed chains xs) where
  -- and so it is in the index
  record Stands (id : ℕ) : Type 0 where
    x : Screened Shared
    there : Contains xs x
    id_is : x.id ≡ id
    wanted : IsWanted want (rank from 0) x

  stands : (id : ℕ) (k : Kept) → from ≤ id → Contains (chain_of chains id) k → HasPrint want k.value → Stands id
  stands id k le c holds =
      let s = has-record want k.value holds in
      let own = subst (λ o. Contains (chain_of chains id) (record { version = k.version; value = o })) s.is c in
      let a = h.all id k.version s.r own in
      let x = a.0 in
      let value = of-version chains x (h.only x a.1) s.r (h.ascending x.id)
      (subst (λ v. Contains (chain_of chains x.id) (record { version = v; value = Some s.r })) (sym a.3)
      (subst (λ q. Contains (chain_of chains q) (record { version = k.version; value = Some s.r })) (sym a.2) own)) in
      record {
        x = x;
        there = a.1;
        id_is = a.2;
        wanted = (
          omega (arith, le, a.2),
          subst (λ p. Holds p want) (sym (h.prints x a.1 ∙ ap (λ (r : RecordTerm). r.print) value)) s.holds,
        );
      }

  next-none : IsNext want (rank from 0) xs None → IsNextId want from chains None
  next-none none id k le c holds =
      let s = stands id k le c holds in
      All-contains (λ (x : Screened Shared). ¬ IsWanted want (rank from 0) x) xs s.x none s.there s.wanted

  candidate : (x : Screened Shared) → IsNext want (rank from 0) xs (Some x) → IsCandidate want chains x
  candidate x (c, wanted, least) = record {
    of_entry = h.only x c;
    print = subst (λ p. Holds p want) (h.prints x c) wanted.1;
  }

  next-some : (x : Screened Shared) → IsNext want (rank from 0) xs (Some x) → IsNextId want from chains (Some x.id)
  next-some x next =
      let is = candidate x next in
      let (c, wanted, least) = next in (
        id-up-to from x.id 0 x.version (h.versions x c) wanted.0,
        (record { version = x.version; value = Some is.of_entry.own }, is.of_entry.there, own-print want chains x is),
        λ id k le d holds.
            let s = stands id k le d holds in
            let up = id-up-to x.id s.x.id x.version s.x.version (h.versions s.x s.there) (least s.x s.there s.wanted) in
            omega (arith, up, s.id_is),
      )

  pub next-id : (o : Option (Screened Shared)) → IsNext want (rank from 0) xs o
      → IsNextId want from chains (option_map (λ (x : Screened Shared). x.id) o)
  next-id None next = next-none next
  next-id (Some x) next = next-some x next

  pub next-entry : (o : Option (Screened Shared)) → IsNext want (rank from 0) xs o
      → IfSome o (IsCandidate want chains)
  next-entry None next = tt
  next-entry (Some x) next = candidate x next
