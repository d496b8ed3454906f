-- A store that is given one state after another.
use Rattle.std.proofs.Common.{Equal, Err, Greater, is_eq, Less, IfSome, Ok, OnErr, Result, ◌≡◌, ◌+◌, ◌++◌, ◌-◌, ◌<◌, ◌≤◌, ◌⊎◌, ◌∙◌, All, ap, arith, Bool, cond, Contains, count_by, false, inl, inr, length, length-append, List, [], ◌∷◌, map, MatchOption, nat_cmp, None, not, Option, Ordering, refl, Some, subst, suc, sym, T, take, true, zero, ℕ}
use Rattle.std.proofs.lemmas.Bool.{cond-true}
use Rattle.std.proofs.lemmas.List.{length-map, map-append}
use Rattle.std.proofs.lemmas.List.Elements.{Contains-append_left, Contains-push, Contains-push_cases, recursion_from_All}
use Rattle.std.specs.Arc.{arc_value}
use Rattle.std.specs.Cmp.{nat_cmp_total, ranked}
use Rattle.std.specs.FinMap.{empty as none, entries, entries-insert, entries_sorted, from_entries, from_entries_push, get, get-from_entries, get-insert, insert, len-empty, len-entries, nat_cmp-IsAntisymmetric}
use Rattle.std.specs.FinMap.Entries.{below_all, by_order, find, is_sorted, put}
use Rattle.std.specs.List.{AllByRecursion}
use Rattle.std.specs.Ordering.{eq_by_cmp}
use Rattle.record_versions.specs.Entries.{chain_of, entries as all_entries}
use Rattle.store_machine.specs.History.{HasText, IsBased, IsHistory, IsId, Snapshot, after_changes, made_at, snapshot}
use Rattle.store_machine.specs.Laws.{IsSound}
use Rattle.store_machine.specs.Machine.{is_live, now}
use Rattle.store_machine.specs.Made.{HasMade}
use Rattle.store_machine.specs.declared.machine.Change.{Change}
use Rattle.store_machine.specs.declared.machine.Entry.{Entry}
use Rattle.store_machine.specs.declared.machine.Status.{Status}
use Rattle.snap_registry.specs.declared.Pin.{Pin}
use Rattle.store_core.specs.Based.{based}
use Rattle.store_core.specs.Kept.{IsEntryOf, Kept, KeptTerm, Lists, status_in, status_of}
use Rattle.store_core.specs.Records.{IsRecord, Shared}
use Rattle.store_core.specs.Stored.{IsChain, StandsFor, StoreTerm, alone}
use Rattle.store_core.proofs.Counts.{both-hold, count-cons, count-insert, less-of, one_if, one_in}
use Rattle.store_core.proofs.Fresh.{empty-lists, no-entries, none-counted, none-in}
use Rattle.store_core.proofs.Indexed.{Adds, added-has}
use Rattle.store_core.proofs.Listed.{lists-more}
use Rattle.store_core.proofs.Sees.{made-of}

tied : (a : ℕ) → eq_by_cmp nat_cmp a a ≡ true
tied a = grind arith

same-key : (a b : ℕ) → eq_by_cmp nat_cmp a b ≡ true → a ≡ b
same-key a b e = grind (arith, e)

later-apart : (a b : ℕ) → b < a → eq_by_cmp nat_cmp a b ≡ false
later-apart a b less = grind (arith, less)

abbrev state-or : Status → Option Status → Status
state-or x None = x
state-or x (Some y) = y

none-some : {X : Type 0} {x : X} → None ≡ Some x → ⊥
none-some e = cc

-- without commits each snapshot is the base
pub no-commits : (version : ℕ) (base : List (ℕ × Status)) (v : ℕ)
    → snapshot (based version base).history v ≡ from_entries base
no-commits version base v = ap (λ cs. after_changes version cs (from_entries base)) (nothing (v - version))
  where
    nothing : (n : ℕ) → take {A = Change} n [] ≡ []
    nothing zero = refl
    nothing (suc n) = refl

-- entries of keys below one
abbrev pub AreBelow : ℕ → List (ℕ × Status) → Type 0
AreBelow id es = AllByRecursion (λ e. e.0 < id) es

not-found : (id : ℕ) (es : List (ℕ × Status)) → AreBelow id es → find nat_cmp id es ≡ None
not-found id [] below = refl
not-found id (e ∷ es) below =
    ap (λ b. cond b (Some e.1) (find nat_cmp id es)) (later-apart id e.0 below.0) ∙ not-found id es below.1

absent : (id : ℕ) (es : List (ℕ × Status)) → AreBelow id es → get (from_entries {R = nat_cmp} es) id ≡ None
absent id es below = get-from_entries nat_cmp_total es id ∙ not-found id es below

put-last : (id : ℕ) (status : Status) (es : List (ℕ × Status)) → AreBelow id es
    → put nat_cmp id status es ≡ es ++ (id, status) ∷ []
put-last id status [] below = refl
put-last id status (e ∷ es) below = go (nat_cmp id e.0) refl (put-last id status es below.1)
  where
    go : (o : Ordering) → nat_cmp id e.0 ≡ o → put nat_cmp id status es ≡ es ++ (id, status) ∷ []
        → by_order o ((id, status) ∷ e ∷ es) ((e.0, status) ∷ es) (e ∷ put nat_cmp id status es)
        ≡ e ∷ es ++ (id, status) ∷ []
    go Greater is rest = ap (λ l. e ∷ l) rest
    go Equal is rest = absurd (omega (arith, below.0, same-key id e.0 (ap is_eq is)))
    go Less is rest = absurd (let less = ranked id e.0 Less (sym is) in omega (arith, below.0, less))

-- ascending keys between two numbers are no more than there is room for
few-between : (es : List (ℕ × Status)) (a b : ℕ) → T (is_sorted nat_cmp es) → T (below_all nat_cmp a es)
    → AreBelow b es → a < b → a + length es < b
few-between [] a b sorted above below less = omega (arith, less)
few-between (e ∷ es) a b sorted above below less =
    let parts = both-hold _ _ sorted in
    let low = less-of a e.0 (nat_cmp a e.0) refl (both-hold _ _ above).0 in
    let rest = few-between es e.0 b parts.1 parts.0 below.1 below.0 in
    omega (arith, low, rest)

few-before : (version : ℕ) (es : List (ℕ × Status)) (id : ℕ) → IsHistory (based version es).history → AreBelow id es
    → 1 ≤ id → length es < id
few-before version [] id good below some = omega (arith, some)
few-before version (e ∷ es) id good below some =
    let sorted = subst (λ l. T (is_sorted nat_cmp l)) good.base (entries_sorted (from_entries {R = nat_cmp} (e ∷ es))) in
    let parts = both-hold _ _ sorted in
    let first = (good.states e.0 e.1 (get-from_entries nat_cmp_total (e ∷ es) e.0
    ∙ cond-true (eq_by_cmp nat_cmp e.0 e.0) (Some e.1) (find nat_cmp e.0 es) (tied e.0))).in_range in
    let rest = few-between es e.0 id parts.1 parts.0 below.1 below.0 in
    omega (arith, first.0, rest)

one-way : (b : Bool) → one_if b + one_if (not b) ≡ 1
one-way true = refl
one-way false = refl

all-counted : (p : Status → Bool) (es : List (ℕ × Status))
    → count_by (λ e. p e.1) es + count_by (λ e. not (p e.1)) es ≡ length es
all-counted p [] = refl
all-counted p (e ∷ es) =
    let yes = count-cons p e es in
    let no = count-cons (λ x. not (p x)) e es in
    let rest = all-counted p es in
    let one = one-way (p e.1) in
    omega (arith, yes, no, rest, one)

-- what was given, as fields of the store
pub record Giving (store new : StoreTerm) (id : ℕ) (k : Kept) : Type 0 where
  pub chains : Adds store.kept.chains new.kept.chains id k
  pub more : length (all_entries new.kept.chains) ≡ length (all_entries store.kept.chains) + 1
  pub pins : new.pins ≡ store.pins
  pub version : new.version ≡ store.version
  pub limit : new.limit ≡ store.limit
  pub counts : MatchOption k.value ((new.live ≡ store.live) × (new.withdrawn ≡ store.withdrawn + 1))
      (λ _. (new.live ≡ store.live + 1) × (new.withdrawn ≡ store.withdrawn))
  pub in_range : IsId id
  pub since : 1 ≤ k.version
  pub until : k.version ≤ store.version
  pub entry : IsEntryOf id k.value

-- by whether it has a record
counts-after : (version : ℕ) (o : Option Shared) (live withdrawn live' withdrawn' : ℕ)
    → MatchOption o ((live' ≡ live) × (withdrawn' ≡ withdrawn + 1))
    (λ _. (live' ≡ live + 1) × (withdrawn' ≡ withdrawn))
    → (live' ≡ live + one_if (is_live (status_in version o)))
    × (withdrawn' ≡ withdrawn + one_if (not (is_live (status_in version o))))
counts-after version None live withdrawn live' withdrawn' c = (omega (arith, c.0), c.1)
counts-after version (Some r) live withdrawn live' withdrawn' c = (c.0, omega (arith, c.1))

text-of : (id version : ℕ) (o : Option Shared) → IsEntryOf id o → HasText (status_in version o)
text-of id version None own = tt
text-of id version (Some r) own = ((arc_value r).mol, own.0.structure)

module _ (version : ℕ) (base : List (ℕ × Status)) (id : ℕ) (status : Status) (below : AreBelow id base) where
  abbrev more : List (ℕ × Status)
  more = base ++ (id, status) ∷ []

  abbrev was : Snapshot
  was = from_entries base

  abbrev is : Snapshot
  is = from_entries more

  inserted : is ≡ insert was id status
  inserted = from_entries_push nat_cmp_total nat_cmp-IsAntisymmetric base id status (not-found id base below)

  in-order : entries was ≡ base → entries is ≡ more
  in-order e =
      ap (λ (m : Snapshot). entries m) inserted
      ∙ (entries-insert nat_cmp_total was id status
      ∙ (ap (λ l. put nat_cmp id status l) e ∙ put-last id status base below))

  state-at : (q : ℕ) → get is q ≡ cond (eq_by_cmp nat_cmp q id) (Some status) (get was q)
  state-at q = ap (λ (m : Snapshot). get m q) inserted ∙ get-insert nat_cmp_total was id status q

  there : get is id ≡ Some status
  there = state-at id ∙ cond-true (eq_by_cmp nat_cmp id id) (Some status) (get was id) (tied id)

  stays : (q : ℕ) (x : Status) → get was q ≡ Some x → get is q ≡ Some x
  stays q x e = state-at q ∙ go (eq_by_cmp nat_cmp q id) refl
    where
      go : (b : Bool) → eq_by_cmp nat_cmp q id ≡ b → cond b (Some status) (get was q) ≡ Some x
      go true same = absurd (none-some (sym (absent id base below) ∙ (ap (λ i. get was i) (sym (same-key q id same)) ∙ e)))
      go false other = e

  which : (q : ℕ) (x : Status) → get is q ≡ Some x → (get was q ≡ Some x) ⊎ ((q ≡ id) × (status ≡ x))
  which q x e = go (eq_by_cmp nat_cmp q id) refl (sym (state-at q) ∙ e)
    where
      go : (b : Bool) → eq_by_cmp nat_cmp q id ≡ b → cond b (Some status) (get was q) ≡ Some x
          → (get was q ≡ Some x) ⊎ ((q ≡ id) × (status ≡ x))
      go true same f = inr (same-key q id same, ap (state-or x) f)
      go false other f = inl f

  counted : (p : Status → Bool)
      → count_by (λ e. p e.1) (entries is) ≡ count_by (λ e. p e.1) (entries was) + one_if (p status)
  counted p =
      let count = count-insert p was id status in
      let none = ap (one_in p) (absent id base below) in
      let same = ap (λ (m : Snapshot). count_by (λ e. p e.1) (entries m)) inserted in
      omega (arith, count, none, same)

  history : IsHistory (based version base).history → IsBased version id status
      → IsHistory (based version more).history
  history good own = record {
    base = in-order good.base;
    states = λ q x e. elim (which q x e) [
      | inl old ↦ good.states q x old
      | inr new ↦ subst (λ i. IsBased version i x) (sym new.0) (subst (IsBased version id) new.1 own)
    ];
    allowed = tt;
  }

-- what is kept of a base
abbrev pub entry_of : ℕ × Status → Entry
entry_of e = record { id = e.0; version = made_at e.1 }

kept-more : (base : List (ℕ × Status)) (id : ℕ) (status : Status)
    → map entry_of (base ++ (id, status) ∷ [])
    ≡ map entry_of base ++ record { id = id; version = made_at status } ∷ []
kept-more base id status = map-append entry_of base ((id, status) ∷ [])

same-entry : (x : Entry) (id : ℕ) (status y : Status) → x.id ≡ id → status ≡ y → made_at y ≡ x.version
    → record { id = id; version = made_at status } ≡ x
same-entry x id status y e f g =
    let v : made_at status ≡ x.version = ap made_at f ∙ g in
    λ i. record { id = sym e i; version = v i }

sound-more : (version : ℕ) (base : List (ℕ × Status)) (id : ℕ) (status : Status) → AreBelow id base
    → IsSound (alone (based version base)) → IsBased version id status
    → IsSound (alone (based version (base ++ (id, status) ∷ [])))
sound-more version base id status below h own =
    let x : Entry = record { id = id; version = made_at status } in
    let es = map entry_of base in
    let whole = kept-more base id status in record {
      history = history version base id status below h.history own;
      doubt = tt;
      slots = tt;
      pins = λ v c. absurd (none-in v c);
      bases = record { base = (omega arith, omega arith); copy = tt; finish = tt };
      kept = λ _ entry n.
          subst (λ l. Contains l entry) (sym whole)
          (elim (which version base id status below entry.id n.status
          (sym (ap (λ m. get m entry.id) (no-commits version (base ++ (id, status) ∷ []) n.at)) ∙ n.state)) [
            | inl old ↦ Contains-append_left es (x ∷ []) entry (h.kept refl entry (record {
              at = version;
              used = h-used;
              status = n.status;
              state = ap (λ m. get m entry.id) (no-commits version base version) ∙ old;
              made = n.made;
            }))
            | inr new ↦ subst (Contains (es ++ x ∷ [])) (same-entry entry id status n.status new.0 new.1 n.made)
                (Contains-push es x)
          ]);
      made = λ _ entry c. elim (Contains-push_cases es x entry (subst (λ l. Contains l entry) whole c)) [
        | inl old ↦ older entry (h.made refl entry old)
        | inr new ↦ subst (λ (e : Entry). HasMade (based version (base ++ (id, status) ∷ [])).history e.id e.version)
            new
            (inr (status, there version base id status below, refl))
      ];
    }
  where
    h-used : Contains ((version + 0) ∷ []) version
    h-used = (0, omega arith, omega arith)

    older : (entry : Entry) → HasMade (based version base).history entry.id entry.version
        → HasMade (based version (base ++ (id, status) ∷ [])).history entry.id entry.version
    older entry (inl never) = absurd never
    older entry (inr (y, e, at)) = inr (y, stays version base id status below entry.id y e, at)

-- a state of an identifier at a version of the chain
abbrev StatesAt : ℕ → List (ℕ × Status) → ℕ → Kept → Type 0
StatesAt version base q l = get (snapshot (based version base).history l.version) q ≡ Some (status_of l)

next-chain : (version : ℕ) (base : List (ℕ × Status)) (id : ℕ) (k : Kept) → AreBelow id base
    → k.version ≤ version → IsEntryOf id k.value → (q : ℕ) (ks new : List Kept)
    → ((l : Kept) → Contains new l → Contains ks l ⊎ ((q ≡ id) × (k ≡ l)))
    → IsChain (based version base) q ks → IsChain (based version (base ++ (id, status_of k) ∷ [])) q new
next-chain version base id k below until entry q ks new which h = record {
  late = λ l d. each (λ x. x.version ≤ version + 0) h.late (λ _. omega (arith, until)) l (which l d);
  states = λ l d. each (StatesAt version more q)
      (λ x f. at-state x.version q (stays version base id (status_of k) below q (status_of x)
      (sym (ap (λ m. get m q) (no-commits version base x.version)) ∙ h.states x f)))
      (λ e. at-state k.version q (subst (λ i. get (from_entries {R = nat_cmp} more) i ≡ Some (status_of k)) (sym e)
      (there version base id (status_of k) below))) l (which l d);
  records = λ l d. each (λ x. IsEntryOf q x.value) h.records
      (λ e. subst (λ i. IsEntryOf i k.value) (sym e) entry) l (which l d);
}
  where
    more : List (ℕ × Status)
    more = base ++ (id, status_of k) ∷ []

    at-state : (v i : ℕ) {x : Status} → get (from_entries {R = nat_cmp} more) i ≡ Some x
        → get (snapshot (based version more).history v) i ≡ Some x
    at-state v i e = ap (λ m. get m i) (no-commits version more v) ∙ e

    each : (P : Kept → Type 0) → ((l : Kept) → Contains ks l → P l) → (q ≡ id → P k)
        → (l : Kept) → Contains ks l ⊎ ((q ≡ id) × (k ≡ l)) → P l
    each P old here l (inl d) = old l d
    each P old here l (inr e) = subst P e.1 (here e.0)

count-at : (p : Status → Bool) (version : ℕ) (base : List (ℕ × Status))
    → count_by (λ e. p e.1) (entries (now (alone (based version base))))
    ≡ count_by (λ e. p e.1) (entries (from_entries {R = nat_cmp} base))
count-at p version base = ap (λ (m : Snapshot). count_by (λ e. p e.1) (entries m)) (no-commits version base (version + 0))

pub nothing-there : (store : StoreTerm) (base : List (ℕ × Status)) (id : ℕ)
    → StandsFor store (based store.version base) → All (λ e. e.0 < id) base → (l : Kept)
    → Contains (chain_of store.kept.chains id) l → ⊥
nothing-there store base id h all l d = none-some
    (sym (absent id base (recursion_from_All (λ (e : ℕ × Status). e.0 < id) base all))
    ∙ (sym (ap (λ m. get m id) (no-commits store.version base l.version)) ∙ (h.chains id).states l d))

pub base-stands : (store new : StoreTerm) (base : List (ℕ × Status)) (id : ℕ) (k : Kept)
    → StandsFor store (based store.version base) → All (λ e. e.0 < id) base → Giving store new id k
    → StandsFor new (based store.version (base ++ (id, status_of k) ∷ []))
base-stands store new base id k h all m =
    let version = store.version in
    let status = status_of k in
    let more = base ++ (id, status) ∷ [] in
    let below = recursion_from_All (λ (e : ℕ × Status). e.0 < id) base all in
    let made : made_at status ≡ k.version = made-of k in
    let own : IsBased version id status = record {
      in_range = m.in_range;
      since = omega (arith, m.since, made);
      until = omega (arith, m.until, made);
      text = text-of id k.version k.value m.entry;
    } in
    let counts = counts-after k.version k.value store.live store.withdrawn new.live new.withdrawn m.counts in
    let live = counted version base id status below is_live in
    let gone = counted version base id status below (λ x. not (is_live x)) in
    let whole = all-counted is_live (entries (from_entries {R = nat_cmp} base)) in
    let size = ap (λ (l : List (ℕ × Status)). length l) h.sound.history.base in
    let few = few-before version base id h.sound.history below m.in_range.0 in
    let most = m.in_range.1 in
    let was-live = h.live ∙ count-at is_live version base in
    let was-gone = h.withdrawn ∙ count-at (λ x. not (is_live x)) version base in
    record {
      sound = sound-more version base id status below h.sound own;
      version = m.version ∙ h.version;
      limit = m.limit ∙ h.limit;
      most = omega (arith, m.limit, h.most);
      within = omega (arith, m.version, h.within);
      pins = h.pins ∙ sym m.pins;
      kept = subst (λ l. Lists l new.kept.chains) (sym (kept-more base id status))
          (subst (λ v. Lists (map entry_of base ++ record { id = id; version = v } ∷ []) new.kept.chains) (sym made)
          (lists-more store.kept.chains new.kept.chains id k m.chains m.more
          (λ l d. absurd (nothing-there store base id h all l d)) (map entry_of base) h.kept));
      few = omega (arith, few, most, m.version, length-map more entry_of, length-append base ((id, status) ∷ []));
      live = counts.0 ∙ (ap (λ n. n + one_if (is_live status)) was-live ∙ (sym live ∙ sym (count-at is_live version more)));
      withdrawn = counts.1 ∙ (ap (λ n. n + one_if (not (is_live status))) was-gone
          ∙ (sym gone ∙ sym (count-at (λ x. not (is_live x)) version more)));
      ids = omega (arith, counts.0, counts.1, was-live, was-gone, whole, size, few, most, m.version, one-way (is_live status));
      chains = λ q. next-chain version base id k below m.until m.entry q (chain_of store.kept.chains q)
          (chain_of new.kept.chains q) (added-has store.kept.chains new.kept.chains id k m.chains q) (h.chains q);
    }

-- before any was given
started : (version : ℕ) → IsSound (alone (based version []))
started version = record {
  history = record {
    base = no-entries (entries none) (sym (len-entries none) ∙ len-empty nat_cmp Status);
    states = λ id status e. absurd (none-some (sym (absent id [] tt) ∙ e));
    allowed = tt;
  };
  doubt = tt;
  slots = tt;
  pins = λ v c. absurd (none-in v c);
  bases = record { base = (omega arith, omega arith); copy = tt; finish = tt };
  kept = λ _ entry n. absurd (none-some (sym (absent entry.id [] tt)
      ∙ (sym (ap (λ m. get m entry.id) (no-commits version [] n.at)) ∙ n.state)));
  made = λ _ entry k. absurd (none-in entry k);
}

pub starts : (version : ℕ) (kept : KeptTerm) (pins : List Pin) → version ≤ 16777215 → kept.chains ≡ [] → pins ≡ []
    → StandsFor (record { kept = kept; pins = pins; version = version; limit = 16777215; live = 0; withdrawn = 0 })
    (based version [])
starts version kept pins few e f =
    let start : Snapshot = none in
    let size : length (entries start) ≡ 0 = sym (len-entries start) ∙ len-empty nat_cmp Status in record {
      sound = started version;
      version = omega arith;
      limit = refl;
      most = omega arith;
      within = few;
      pins = sym f;
      kept = subst (Lists []) (sym e) empty-lists;
      few = omega arith;
      live = none-counted is_live (entries start) size ∙ sym (count-at is_live version []);
      withdrawn = none-counted (λ x. not (is_live x)) (entries start) size
          ∙ sym (count-at (λ x. not (is_live x)) version []);
      ids = omega arith;
      chains = λ id. subst (λ cs. IsChain (based version []) id (chain_of cs id)) (sym e) (record {
        late = λ k c. absurd (none-in k c);
        states = λ k c. absurd (none-in k c);
        records = λ k c. absurd (none-in k c);
      });
    }

pub own-entry : (id : ℕ) (o : Option Shared) → IfSome o (λ r. IsRecord (arc_value r))
    → IfSome o (λ r. (arc_value r).id ≡ id) → IsEntryOf id o
own-entry id None sound own = tt
own-entry id (Some r) sound own = (sound, own)

pub at-err : {X E : Type 0} (r : Result X E) {P : Type 0} → P → OnErr r P
at-err (Ok x) p = tt
at-err (Err e) p = p
