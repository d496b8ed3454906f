-- An entry that is read at no version is taken out: what the others are read at stays, and a prune goes upward.
use Rattle.std.proofs.Common.{◌≡◌, ◌≢◌, ◌+◌, ◌==◌, ◌&&◌, ◌<◌, ◌≤◌, ◌⊎◌, ◌↔◌, ◌∙◌, ap, arith, Bool, cond, Contains, eq-eqb, eqb-true, false, filter, inl, inr, length, List, [], ◌∷◌, None, not, refl, Some, subst, sym, true, ℕ}
use Rattle.std.proofs.lemmas.Bool.{cases_lt, cond-false, cond-true, true≢false}
use Rattle.std.proofs.lemmas.Bool.Decides.{nat_tests}
use Rattle.std.proofs.lemmas.List.Kept.{AllPairs-filter}
use Rattle.record_versions.specs.Entries.{IsDead, IsLatest, IsLeastDead, IsRead, IsUpTo, chain_of, entries, is_other}
use Rattle.store_machine.specs.declared.machine.Entry.{Entry}
use Rattle.store_core.specs.Kept.{Chains, HasEntry, Kept, Lists}
use Rattle.store_machine.proofs.Members.{contains-here, contains-split, contains-there}
use Rattle.store_core.proofs.Taken.{cases-same, filtered-has, filtered-in, one-out}

pub other-is : (version : ℕ) (k : Kept) → k.version ≢ version → is_other version k ≡ true
other-is version k other = grind (arith, nat_tests, other)

pub is-other : (version : ℕ) (k : Kept) → is_other version k ≡ true → k.version ≢ version
is-other version k t = grind (arith, nat_tests, t)

module _ (live : List ℕ) (ks : List Kept) (d : Kept) (there : Contains ks d) (dead : ¬ IsRead live ks d) where
  abbrev left : List Kept
  left = filter (is_other d.version) ks

  read-left : (k : Kept) → IsRead live ks k → IsRead live left k
  read-left k (v, used, latest) = (
    v,
    used,
    (
      filtered-in (is_other d.version) ks k latest.0 (other-is d.version k own),
      latest.1,
      λ l c le. latest.2 l (filtered-has (is_other d.version) ks l c).0 le,
    ),
  )
    where
      own : k.version ≢ d.version
      own e = dead (
        v,
        used,
        (
          there,
          (let le = latest.1 in omega (arith, le, e)),
          λ l c le. let top = latest.2 l c le in omega (arith, top, e),
        ),
      )

  left-read : (k : Kept) → IsRead live left k → IsRead live ks k
  left-read k (v, used, latest) = (
    v,
    used,
    (
      (filtered-has (is_other d.version) ks k latest.0).0,
      latest.1,
      λ l c le. top l c le (cases-same l.version d.version),
    ),
  )
    where
      others : (l : Kept) → Contains ks l → l.version ≤ v → l.version ≢ d.version → l.version ≤ k.version
      others l c le other = latest.2 l (filtered-in (is_other d.version) ks l c (other-is d.version l other)) le

      up : (l : Kept) → Contains ks l → l.version ≤ v → k.version < d.version
          → (l.version ≡ d.version) ⊎ (l.version ≢ d.version) → l.version ≤ d.version
      up l c le above (inl e) = omega (arith, e)
      up l c le above (inr other) = let h = others l c le other in omega (arith, h, above)

      top : (l : Kept) → Contains ks l → l.version ≤ v → (l.version ≡ d.version) ⊎ (l.version ≢ d.version)
          → l.version ≤ k.version
      top l c le (inr other) = others l c le other
      top l c le (inl e) =
          elim (cases_lt k.version d.version) [
            | inl above ↦ absurd (dead (
              v,
              used,
              (
                there,
                omega (arith, le, e),
                λ m f late. up m f late above (cases-same m.version d.version),
              ),
            ))
            | inr ge ↦ omega (arith, ge, e)
          ]

-- whether an entry is read is decided
abbrev Top : ℕ → List Kept → Kept → Type 0
Top v ks k = (l : Kept) → Contains ks l → l.version ≤ v → l.version ≤ k.version

decide-top : (v : ℕ) (ks : List Kept) (k : Kept) → Top v ks k ⊎ ¬ Top v ks k
decide-top v [] k = inl (λ l c le. absurd (omega (arith, c.1)))
decide-top v (x ∷ xs) k =
    elim (decide-top v xs k) [
      | inr n ↦ inr (λ t. n (λ l c le. t l (contains-there x l xs c) le))
      | inl t ↦ elim (cases_lt k.version x.version) [
        | inr le ↦ inl (λ l c e. elim (contains-split x l xs c) [
          | inl same ↦ omega (arith, le, ap (λ (y : Kept). y.version) same)
          | inr d ↦ t l d e
        ])
        | inl lt ↦ elim (cases_lt v x.version) [
          | inl late ↦ inl (λ l c e. elim (contains-split x l xs c) [
            | inl same ↦ absurd (omega (arith, late, e, ap (λ (y : Kept). y.version) same))
            | inr d ↦ t l d e
          ])
          | inr early ↦ inr (λ s. let h = s x (contains-here x x xs refl) early in omega (arith, h, lt))
        ]
      ]
    ]

decide-latest : (v : ℕ) (ks : List Kept) (k : Kept) → Contains ks k
    → IsLatest v ks (Some k) ⊎ ¬ IsLatest v ks (Some k)
decide-latest v ks k c =
    elim (cases_lt v k.version) [
      | inl late ↦ inr (λ l. let le = l.1 in omega (arith, le, late))
      | inr early ↦ elim (decide-top v ks k) [ inl t ↦ inl (c, early, t) | inr n ↦ inr (λ l. n l.2) ]
    ]

pub decide-read : (live : List ℕ) (ks : List Kept) (k : Kept) → Contains ks k → IsRead live ks k ⊎ ¬ IsRead live ks k
decide-read [] ks k c = inr (λ r. let w = r.1.1 in omega (arith, w))
decide-read (v ∷ vs) ks k c =
    elim (decide-latest v ks k c) [
      | inl l ↦ inl (v, contains-here v v vs refl, l)
      | inr n ↦ elim (decide-read vs ks k c) [
        | inl r ↦ inl (r.0, contains-there v r.0 vs r.1, r.2)
        | inr m ↦ inr (λ r. elim (contains-split v r.0 vs r.1) [
          | inl e ↦ n (subst (λ w. IsLatest w ks (Some k)) (sym e) r.2)
          | inr d ↦ m (r.0, d, r.2)
        ])
      ]
    ]

-- an entry of a version was taken out of the chain of an identifier
abbrev pub Takes : Chains → Chains → ℕ → ℕ → Type 0
Takes now next id version = (q : ℕ)
    → chain_of next q ≡ cond (q == id) (filter (is_other version) (chain_of now id)) (chain_of now q)

abbrev Either : Chains → Chains → ℕ → ℕ → ℕ → Type 0
Either now next id version q = ((q ≡ id) × (chain_of next q ≡ filter (is_other version) (chain_of now q)))
    ⊎ ((q ≢ id) × (chain_of next q ≡ chain_of now q))

pub which : (now next : Chains) (id version : ℕ) → Takes now next id version → (q : ℕ) → Either now next id version q
which now next id version takes q =
    elim (q == id) as (λ b. (q == id) ≡ b → Either now next id version q) [
      | true ↦ λ e. inl (
        eqb-true q id e,
        takes q
            ∙ (cond-true (q == id) _ _ e
            ∙ ap (λ i. filter (is_other version) (chain_of now i)) (sym (eqb-true q id e))),
      )
      | false ↦ λ e. inr (
        (λ same. true≢false (sym (eq-eqb q id same) ∙ e)),
        takes q ∙ cond-false (q == id) _ _ e,
      )
    ] refl

module _ (now next : Chains) (id version : ℕ) (takes : Takes now next id version) where
  pub taken-has : (q : ℕ) (k : Kept) → Contains (chain_of next q) k
      → Contains (chain_of now q) k × (q ≡ id → k.version ≢ version)
  taken-has q k c =
      elim (which now next id version takes q) [
        | inl e ↦
            let r = filtered-has (is_other version) (chain_of now q) k (subst (λ ks. Contains ks k) e.1 c) in
            (r.0, λ _. is-other version k r.1)
        | inr e ↦ (subst (λ ks. Contains ks k) e.1 c, λ same. absurd (e.0 same))
      ]

  pub taken-in : (q : ℕ) (k : Kept) → Contains (chain_of now q) k → (q ≡ id → k.version ≢ version)
      → Contains (chain_of next q) k
  taken-in q k c other =
      elim (which now next id version takes q) [
        | inl e ↦ subst (λ ks. Contains ks k) (sym e.1)
            (filtered-in (is_other version) (chain_of now q) k c (other-is version k (other e.0)))
        | inr e ↦ subst (λ ks. Contains ks k) (sym e.1) c
      ]

abbrev is_not : ℕ → ℕ → Entry → Bool
is_not id version e = not ((e.id == id) && (e.version == version))

not-is : (id version : ℕ) (e : Entry) → is_not id version e ≡ true → e.id ≡ id → e.version ≢ version
not-is id version e t = grind (arith, nat_tests, t)

is-not : (id version : ℕ) (e : Entry) → (e.id ≡ id → e.version ≢ version) → is_not id version e ≡ true
is-not id version e other =
    elim (cases-same e.id id) [
      | inl same ↦ let h = other same in grind (arith, nat_tests, h)
      | inr apart ↦ grind (arith, nat_tests, apart)
    ]

itself : (id version : ℕ) → is_not id version (record { id = id; version = version }) ≡ false
itself id version = grind (arith, nat_tests)

-- the list of the entries without the one that was taken out
pub lists-left : (now next : Chains) (id version : ℕ) → Takes now next id version
    → HasEntry now (record { id = id; version = version }) → length (entries next) + 1 ≡ length (entries now)
    → (es : List Entry) → Lists es now → Lists (filter (is_not id version) es) next
lists-left now next id version takes there fewer es l = record {
  distinct = AllPairs-filter (λ x y. x ≢ y) (is_not id version) es l.distinct;
  exactly = λ e. (
    (λ c.
        let r = filtered-has (is_not id version) es e c in
        let h = (l.exactly e).0 r.0 in (
          h.0,
          taken-in now next id version takes e.id h.0 h.1
              (λ same v. not-is id version e r.1 same (sym h.2 ∙ v)),
          h.2,
        )),
    (λ h.
        let r = taken-has now next id version takes e.id h.0 h.1 in
        filtered-in (is_not id version) es e ((l.exactly e).1 (h.0, r.0, h.2))
        (is-not id version e (λ same v. r.1 same (h.2 ∙ v)))),
  );
  count =
      let one = one-out (is_not id version) es (record { id = id; version = version }) l.distinct
      ((l.exactly (record { id = id; version = version })).1 there) (itself id version)
      (λ e other. is-not id version e
      (λ same v. other (λ i. record { id = sym same i; version = sym v i }))) in
      omega (arith, one, fewer, l.count);
}

-- what a prune has done when it has come to a place
pub record Pruning (live : List ℕ) (from : ℕ × ℕ) (old now : Chains) : Type 0 where
  pub fewer : (id : ℕ) (k : Kept) → Contains (chain_of now id) k → Contains (chain_of old id) k
  pub reads : (id : ℕ) (k : Kept) → IsRead live (chain_of now id) k ↔ IsRead live (chain_of old id) k
  pub passed : (p : ℕ × ℕ) → IsDead live now p → IsUpTo from p
  pub count : length (entries now) ≤ length (entries old)
  pub lists : (es : List Entry) → Lists es old → (left : List Entry) × Lists left now

pub pruning-begins : (live : List ℕ) (old : Chains) → Pruning live (0, 0) old old
pruning-begins live old = record {
  fewer = λ id k c. c;
  reads = λ id k. ((λ r. r), (λ r. r));
  passed = λ p dead. (omega arith, λ e. omega arith);
  count = omega arith;
  lists = λ es l. (es, l);
}

module _ (live : List ℕ) (from d : ℕ × ℕ) (old now next : Chains) (p : Pruning live from old now)
    (least : IsLeastDead live from now (Some d)) (takes : Takes now next d.0 d.1)
    (one : length (entries next) + 1 ≡ length (entries now)) where
  pub dead-there : HasEntry now (record { id = d.0; version = d.1 })
  dead-there = let (k, c, is, unread) = least.1 in (k, c, is)

  same-reads : (id : ℕ) (k : Kept) → IsRead live (chain_of next id) k ↔ IsRead live (chain_of now id) k
  same-reads id k =
      let (x, c, is, unread) = least.1 in
      elim (which now next d.0 d.1 takes id) [
        | inl e ↦
            let ks = chain_of now id in
            let there : Contains ks x = subst (λ i. Contains (chain_of now i) x) (sym e.0) c in
            let dead : ¬ IsRead live ks x = subst (λ i. ¬ IsRead live (chain_of now i) x) (sym e.0) unread in
            let is-left : chain_of next id ≡ filter (is_other x.version) ks = e.1
            ∙ ap (λ v. filter (is_other v) ks) (sym is) in (
              (λ r. left-read live ks x there dead k (subst (λ l. IsRead live l k) is-left r)),
              (λ r. subst (λ l. IsRead live l k) (sym is-left) (read-left live ks x there dead k r)),
            )
        | inr e ↦ ((λ r. subst (λ l. IsRead live l k) e.1 r), (λ r. subst (λ l. IsRead live l k) (sym e.1) r))
      ]

  pub prune-goes-on : Pruning live d old next
  prune-goes-on = record {
    fewer = λ id k c. p.fewer id k (taken-has now next d.0 d.1 takes id k c).0;
    reads = λ id k. (
      (λ r. (p.reads id k).0 ((same-reads id k).0 r)),
      (λ r. (same-reads id k).1 ((p.reads id k).1 r)),
    );
    passed = λ q (k, c, is, unread).
        let dead : IsDead live now q = (
          k,
          (taken-has now next d.0 d.1 takes q.0 k c).0,
          is,
          λ r. unread ((same-reads q.0 k).1 r),
        ) in
        least.2 q (p.passed q dead) dead;
    count = omega (arith, p.count, one);
    lists = λ es l.
        let r = p.lists es l in
        (filter (is_not d.0 d.1) r.0, lists-left now next d.0 d.1 takes dead-there one r.0 r.1);
  }

-- where none is dead any more, what is left is what is read
pub pruned : (live : List ℕ) (from : ℕ × ℕ) (old now : Chains) → Pruning live from old now
    → IsLeastDead live from now None → (id : ℕ) (k : Kept)
    → Contains (chain_of now id) k ↔ (Contains (chain_of old id) k × IsRead live (chain_of old id) k)
pruned live from old now p none id k = (
  (λ c. (p.fewer id k c, (p.reads id k).0 (read c (decide-read live (chain_of now id) k c)))),
  (λ h. let r = (p.reads id k).1 h.1 in r.2.0),
)
  where
    read : Contains (chain_of now id) k
        → IsRead live (chain_of now id) k ⊎ ¬ IsRead live (chain_of now id) k → IsRead live (chain_of now id) k
    read c (inl r) = r
    read c (inr n) = let dead : IsDead live now (id, k.version) = (k, c, refl, n) in
        absurd (none (id, k.version) (p.passed (id, k.version) dead) dead)
