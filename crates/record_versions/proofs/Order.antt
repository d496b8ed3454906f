-- The entries of one identifier by their places: the latest one, those that are read, and one taken out.
use Rattle.std.proofs.Common.{◌≡◌, ◌≢◌, ◌+◌, ◌++◌, ◌-◌, ◌<◌, ◌≤◌, ◌==◌, ◌∙◌, All, ap, arith, cond, Contains, eq-eqb, false, filter, get_or, inl, inr, IfSome, length, List, [], ◌∷◌, MatchOption, nat_le, None, not, Option, refl, Some, subst, suc, sym, true, zero, ℕ}
use Rattle.std.proofs.lemmas.Bool.{cases_lt, ne_eqb}
use Rattle.std.proofs.lemmas.List.{get_or_default, get_or_push, length_push}
use Rattle.std.proofs.lemmas.List.Sorted.{IsPartitionedBy-leb}
use Rattle.std.specs.List.{AllPairs, AllWithin, remove}
use Rattle.std.specs.List.Sorted.{IsNonDecreasingBy, IsPartitionedBy}
use Rattle.record_versions.specs.Entries.{IsBetween, IsLatest, IsLeastUnread, IsRead, IsReadBefore, is_other}
use Rattle.record_versions.specs.declared.entries.Entry.{Entry}

module _ {V : Type 0} where
  -- each version is below all later ones
  abbrev pub Ascends : List (Entry V) → Type 0
  Ascends ks = AllPairs (λ k l. k.version < l.version) ks

  -- what is up to a version stands before what is after it
  pub parted : (version : ℕ) (ks : List (Entry V)) → Ascends ks
      → IsPartitionedBy (λ (k : Entry V). nat_le k.version version) ks
  parted version ks up = IsPartitionedBy-leb (λ (k : Entry V). k.version) ks version rises
    where
      rises : IsNonDecreasingBy (λ (k : Entry V). k.version) ks
      rises i j d le less =
          elim (cases_lt i j) [
            | inl lt ↦ let h = up i j d lt less in omega (arith, h)
            | inr ge ↦
                let same : i ≡ j = omega (arith, le, ge) in
                omega (arith, ap (λ n. (get_or ks n d).version) same)
          ]

  -- all are up to a version, where the last one is
  pub up-to-last : (version : ℕ) (ks : List (Entry V)) (last : Entry V) → Ascends (ks ++ last ∷ [])
      → last.version ≤ version → AllWithin (λ k. k.version ≤ version) (ks ++ last ∷ []) 0 (length ks + 1)
  up-to-last version ks last up late i d low high =
      let long = length_push ks last in
      let end = ap (λ (k : Entry V). k.version) (get_or_push ks last d (length ks) refl) in
      elim (cases_lt i (length ks)) [
        | inl lt ↦ let h = up i (length ks) d lt (omega (arith, long)) in omega (arith, h, end, late)
        | inr ge ↦
            let same : i ≡ length ks = omega (arith, ge, high) in
            omega (arith, ap (λ n. (get_or (ks ++ last ∷ []) n d).version) same, end, late)
      ]

  -- the last of those up to a version
  pub latest-index : (version i : ℕ) (ks : List (Entry V)) (d : Entry V) → i < length ks → Ascends ks
      → AllWithin (λ k. k.version ≤ version) ks 0 (i + 1)
      → AllWithin (λ k. version < k.version) ks (i + 1) (length ks) → IsLatest version ks (Some (get_or ks i d))
  latest-index version i ks d less up before behind = (
    (i, less, get_or_default ks i (get_or ks i d) d less),
    before i d (omega arith) (omega arith),
    λ l c le. elim (cases_lt c.0 i) [
      | inl lt ↦
          let below = up c.0 i l lt less in
          omega (
            arith,
            below,
            ap (λ (k : Entry V). k.version) c.2,
            ap (λ (k : Entry V). k.version) (get_or_default ks i l d less),
          )
      | inr ge ↦ elim (cases_lt i c.0) [
        | inl gt ↦
            let after = behind c.0 l (omega (arith, gt)) c.1 in
            absurd (omega (arith, after, le, ap (λ (k : Entry V). k.version) c.2))
        | inr here ↦
            let same : c.0 ≡ i = omega (arith, ge, here) in
            omega (
              arith,
              ap (λ (k : Entry V). k.version) c.2,
              ap (λ n. (get_or ks n l).version) same,
              ap (λ (k : Entry V). k.version) (get_or_default ks i l d less),
            )
      ]
    ],
  )

  -- the last one, where it is not after a version
  pub latest-last : (version : ℕ) (ks : List (Entry V)) (last : Entry V) → Ascends (ks ++ last ∷ [])
      → last.version ≤ version → IsLatest version (ks ++ last ∷ []) (Some last)
  latest-last version ks last up late =
      let long = length_push ks last in
      subst (λ k. IsLatest version (ks ++ last ∷ []) (Some k)) (get_or_push ks last last (length ks) refl)
      (latest-index version (length ks) (ks ++ last ∷ []) last (omega (arith, long)) up
      (up-to-last version ks last up late)
      (λ i d low high. absurd (omega (arith, long, low, high))))

  -- the one in front of a place, where those in front of it are up to a version, and the others are not
  pub latest-before : (version i place : ℕ) (ks : List (Entry V)) (x : Entry V) → place ≡ i + 1 → place ≤ length ks
      → Ascends ks → AllWithin (λ k. k.version ≤ version) ks 0 place
      → AllWithin (λ k. version < k.version) ks place (length ks) → x ≡ get_or ks i x → IsLatest version ks (Some x)
  latest-before version i place ks x next within up before behind is =
      subst (λ k. IsLatest version ks (Some k)) (sym is)
      (latest-index version i ks x (omega (arith, next, within)) up
      (λ j d low high. before j d low (omega (arith, high, next)))
      (λ j d low high. behind j d (omega (arith, low, next)) high))

  -- what comes after an entry: no version, or that of the next place
  abbrev pub IsNextAt : List (Entry V) → ℕ → Option ℕ → Type 0
  IsNextAt ks place next = MatchOption next (length ks ≤ place)
      (λ v. (place < length ks) × ((d : Entry V) → v ≡ (get_or ks place d).version))

  read-at : (version i : ℕ) (ks : List (Entry V)) (d : Entry V) (next : Option ℕ) → i < length ks → Ascends ks
      → IsNextAt ks (i + 1) next → IsBetween (get_or ks i d).version next version
      → IsLatest version ks (Some (get_or ks i d))
  read-at version i ks d next less up at between =
      latest-index version i ks d less up before (after next at between.1)
    where
      before : AllWithin (λ k. k.version ≤ version) ks 0 (i + 1)
      before j e low high =
          let first = between.0 in
          let own = ap (λ (k : Entry V). k.version) (get_or_default ks i e d less) in
          elim (cases_lt j i) [
            | inl lt ↦ let h = up j i e lt less in omega (arith, h, first, own)
            | inr ge ↦
                let same : j ≡ i = omega (arith, ge, high) in
                omega (arith, ap (λ n. (get_or ks n e).version) same, first, own)
          ]

      after : (next : Option ℕ) → IsNextAt ks (i + 1) next → IfSome next (λ n. version < n)
          → AllWithin (λ k. version < k.version) ks (i + 1) (length ks)
      after None past early j e low high = absurd (omega (arith, past, low, high))
      after (Some n) there early j e low high =
          let own = there.1 e in
          elim (cases_lt (i + 1) j) [
            | inl lt ↦ let h = up (i + 1) j e lt high in omega (arith, h, own, early)
            | inr ge ↦
                let same : j ≡ i + 1 = omega (arith, ge, low) in
                omega (arith, ap (λ n. (get_or ks n e).version) same, own, early)
          ]

  pub is-read : (live : List ℕ) (i : ℕ) (ks : List (Entry V)) (d : Entry V) (next : Option ℕ) → i < length ks
      → Ascends ks → IsNextAt ks (i + 1) next → IsReadBefore (get_or ks i d).version next live true
      → IsRead live ks (get_or ks i d)
  is-read live i ks d next less up at (v, member, between) =
      (v, member, read-at v i ks d next less up at between)

  pub is-unread : (live : List ℕ) (i : ℕ) (ks : List (Entry V)) (d : Entry V) (next : Option ℕ) → i < length ks
      → Ascends ks → IsNextAt ks (i + 1) next → IsReadBefore (get_or ks i d).version next live false
      → IsRead live ks (get_or ks i d) → ⊥
  is-unread live i ks d next less up at none (v, member, latest) =
      let here : ¬ IsBetween (get_or ks i d).version next (get_or live member.0 v) = none member.0 v member.1 in
      here (subst (IsBetween (get_or ks i d).version next) (sym member.2) (latest.1, early next at))
    where
      early : (next : Option ℕ) → IsNextAt ks (i + 1) next → IfSome next (λ n. v < n)
      early None past = tt
      early (Some n) there =
          let own = there.1 d in
          let above = up i (i + 1) d (omega arith) there.0 in
          elim (cases_lt v n) [
            | inl lt ↦ lt
            | inr ge ↦
                let h = latest.2 (get_or ks (i + 1) d)
                (i + 1, there.0, get_or_default ks (i + 1) (get_or ks (i + 1) d) d there.0)
                (omega (arith, own, ge)) in
                absurd (omega (arith, h, above))
          ]

  -- up to a place, each entry from a version on is read
  abbrev pub AreRead : List ℕ → ℕ → List (Entry V) → ℕ → Type 0
  AreRead live from ks place =
      AllWithin (λ k. from ≤ k.version → IsRead live ks k) ks 0 place

  pub read-more : (live : List ℕ) (from i : ℕ) (ks : List (Entry V)) → AreRead live from ks i
      → ((d : Entry V) → IsRead live ks (get_or ks i d)) → AreRead live from ks (i + 1)
  read-more live from i ks all here j d low high late =
      elim (cases_lt j i) [
        | inl lt ↦ all j d low lt late
        | inr ge ↦
            let same : j ≡ i = omega (arith, ge, high) in
            subst (λ n. IsRead live ks (get_or ks n d)) (sym same) (here d)
      ]

  pub all-read : (live : List ℕ) (from place : ℕ) (ks : List (Entry V)) → length ks ≤ place → AreRead live from ks place
      → IsLeastUnread live from ks None
  all-read live from place ks end all k c late =
      subst (IsRead live ks) c.2 (all c.0 k (omega arith) (omega (arith, c.1, end))
      (omega (arith, late, ap (λ (l : Entry V). l.version) c.2)))

  pub first-unread : (live : List ℕ) (from i : ℕ) (ks : List (Entry V)) (d : Entry V) → i < length ks → Ascends ks
      → AreRead live from ks i → from ≤ (get_or ks i d).version → (IsRead live ks (get_or ks i d) → ⊥)
      → IsLeastUnread live from ks (Some (get_or ks i d).version)
  first-unread live from i ks d less up all late unread = (
    late,
    (get_or ks i d, (i, less, get_or_default ks i (get_or ks i d) d less), refl, unread),
    λ k c after before. elim (cases_lt c.0 i) [
      | inl lt ↦ subst (IsRead live ks) c.2 (all c.0 k (omega arith) lt
          (omega (arith, after, ap (λ (l : Entry V). l.version) c.2)))
      | inr ge ↦ elim (cases_lt i c.0) [
        | inl gt ↦
            let h = up i c.0 k gt c.1 in
            absurd (omega (
              arith,
              h,
              before,
              ap (λ (l : Entry V). l.version) c.2,
              ap (λ (l : Entry V). l.version) (get_or_default ks i k d less),
            ))
        | inr here ↦
            let same : c.0 ≡ i = omega (arith, ge, here) in
            absurd (omega (
              arith,
              before,
              ap (λ (l : Entry V). l.version) c.2,
              ap (λ n. (get_or ks n k).version) same,
              ap (λ (l : Entry V). l.version) (get_or_default ks i k d less),
            ))
      ]
    ],
  )

  -- no entry has the version
  pub absent : (version place : ℕ) (ks : List (Entry V)) → place ≤ length ks
      → AllWithin (λ k. k.version ≤ version) ks 0 place → AllWithin (λ k. version < k.version) ks place (length ks) → Ascends ks
      → ((d : Entry V) → 0 < place → (get_or ks (place - 1) d).version ≢ version) → All (λ k. k.version ≢ version) ks
  absent version place ks fits before behind up not_last i d less e =
      elim (cases_lt i place) [
        | inl lt ↦ elim (cases_lt (i + 1) place) [
          | inl far ↦
              let low = up i (place - 1) d (omega (arith, far)) (omega (arith, fits, far)) in
              let high = before (place - 1) d (omega arith) (omega (arith, lt)) in
              absurd (omega (arith, low, high, e))
          | inr last ↦
              let same : i ≡ place - 1 = omega (arith, lt, last) in
              not_last d (omega (arith, lt)) (ap (λ n. (get_or ks n d).version) (sym same) ∙ e)
        ]
        | inr ge ↦ let h = behind i d ge less in absurd (omega (arith, h, e))
      ]

  pub kept-whole : (version : ℕ) (ks : List (Entry V)) → All (λ k. k.version ≢ version) ks
      → ks ≡ filter (is_other version) ks
  kept-whole version [] all = refl
  kept-whole version (k ∷ ks) all =
      let f : (k.version == version) ≡ false = ne_eqb k.version version (all 0 k (omega arith)) in
      ap (λ l. k ∷ l) (kept-whole version ks (λ i d less. all (suc i) d (omega (arith, less))))
      ∙ sym (ap (λ b. cond (not b) (k ∷ filter (is_other version) ks) (filter (is_other version) ks)) f)

  pub one-removed : (version i : ℕ) (ks : List (Entry V)) (d : Entry V) → i < length ks → Ascends ks
      → (get_or ks i d).version ≡ version → remove ks i ≡ filter (is_other version) ks
  one-removed version i [] d less up e = absurd (omega (arith, less))
  one-removed version zero (k ∷ ks) d less up e =
      let t : (k.version == version) ≡ true = eq-eqb k.version version e in
      kept-whole version ks (λ j b within f. let h = up 0 (suc j) b (omega arith) (omega (arith, within)) in
      absurd (omega (arith, h, e, f)))
      ∙ sym (ap (λ b. cond (not b) (k ∷ filter (is_other version) ks) (filter (is_other version) ks)) t)
  one-removed version (suc i) (k ∷ ks) d less up e =
      let above = up 0 (suc i) d (omega arith) less in
      let f : (k.version == version) ≡ false = ne_eqb k.version version
      (λ t. absurd (omega (arith, above, e, t))) in
      ap (λ l. k ∷ l) (one-removed version i ks d (omega (arith, less))
      (λ a b x lt within. up (suc a) (suc b) x (omega (arith, lt)) (omega (arith, within))) e)
      ∙ sym (ap (λ b. cond (not b) (k ∷ filter (is_other version) ks) (filter (is_other version) ks)) f)

  -- one fewer, where the version was there
  pub removed-there : (version i : ℕ) (ks : List (Entry V)) (x : Entry V) → i < length ks → x ≡ get_or ks i x
      → x.version ≡ version → Contains ks (record { version = version; value = x.value })
  removed-there version i ks x less is e =
      let same : x ≡ record { version = version; value = x.value } = ap (λ v. record { version = v; value = x.value }) e
      in
      subst (Contains ks) same (i, less, sym is)
