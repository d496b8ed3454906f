-- The first entry of a snapshot at or after an identifier.
use Rattle.std.proofs.Common.{◌≡◌, ◌≢◌, ◌+◌, ◌<◌, ◌≤◌, ◌∙◌, All, ap, arith, cond, Contains, false, IfSome, inl, inr, List, [], ◌∷◌, MatchOption, nat_cmp, None, Option, refl, Some, subst, sym, T, true, ℕ}
use Rattle.std.proofs.lemmas.Bool.{cases_lt}
use Rattle.std.proofs.lemmas.List.Elements.{All-cons, All-nil}
use Rattle.std.specs.Borrow.{Bor}
use Rattle.std.specs.FinMap.{entries, entries_sorted, get, get-entries}
use Rattle.std.specs.FinMap.Entries.{below_all, find, is_sorted}
use Rattle.std.specs.Ordering.{eq_by_cmp}
use Rattle.record_versions.specs.Entries.{IsLatest, chain_of}
use Rattle.record_versions.specs.Readings.{IsFirstAt}
use Rattle.store_machine.specs.History.{IsId, Snapshot, snapshot}
use Rattle.store_machine.specs.Laws.{KeptIsRead, StatesStay}
use Rattle.store_machine.specs.declared.machine.State.{State}
use Rattle.store_machine.specs.declared.machine.Status.{Status}
use Rattle.store_core.specs.Copied.{FirstFrom, IsFirstFrom, KeepsVersion}
use Rattle.store_core.specs.Kept.{Chains, Kept, first_of, status_of}
use Rattle.store_core.specs.Records.{Shared}
use Rattle.store_core.specs.Stored.{Served, StandsFor, StoreTerm, served}
use Rattle.store_core.proofs.Counts.{both-hold, find-below, less-of}
use Rattle.store_core.proofs.Sees.{same-state, sees}
use Rattle.store_machine.proofs.Members.{contains-here}

none-some : {X : Type 0} {x : X} → None ≡ Some x → ⊥
none-some e = cc

tied : (a : ℕ) → eq_by_cmp nat_cmp a a ≡ true
tied a = grind arith

apart : (a b : ℕ) → a ≢ b → eq_by_cmp nat_cmp a b ≡ false
apart a b other = grind (arith, other)

-- in a list of entries whose identifiers ascend
abbrev Es : Type 0
Es = List (ℕ × Status)

find-here : (e : ℕ × Status) (es : Es) → find nat_cmp e.0 (e ∷ es) ≡ Some e.1
find-here e es = ap (λ b. cond b (Some e.1) (find nat_cmp e.0 es)) (tied e.0)

find-there : (q : ℕ) (e : ℕ × Status) (es : Es) → q ≢ e.0 → find nat_cmp q (e ∷ es) ≡ find nat_cmp q es
find-there q e es other = ap (λ b. cond b (Some e.1) (find nat_cmp q es)) (apart q e.0 other)

above-all : (a : ℕ) (es : Es) → T (below_all nat_cmp a es) → All (λ e. a < e.0) es
above-all a [] below = All-nil _
above-all a (e ∷ es) below =
    let parts = both-hold _ _ below in
    All-cons (λ x. a < x.0) e es (less-of a e.0 (nat_cmp a e.0) refl parts.0) (above-all a es parts.1)

-- none is found between two identifiers
abbrev NoneFrom : ℕ → ℕ → Es → Type 0
NoneFrom from to es = (q : ℕ) → from ≤ q → q < to → find nat_cmp q es ≡ None

-- a first entry that is not found is below them, and the others are not found either
first-below : (from to : ℕ) (e : ℕ × Status) (es : Es) → NoneFrom from to (e ∷ es) → e.0 < to → e.0 < from
first-below from to e es none less =
    elim (cases_lt e.0 from) [
      | inl lt ↦ lt
      | inr ge ↦ absurd (none-some (sym (none e.0 ge less) ∙ find-here e es))
    ]

rest-none : (from to : ℕ) (e : ℕ × Status) (es : Es) → NoneFrom from to (e ∷ es) → e.0 < from → NoneFrom from to es
rest-none from to e es none below q late less =
    sym (find-there q e es (λ same. omega (arith, below, late, same))) ∙ none q late less

all-below : (from : ℕ) (es : Es) → ((to : ℕ) → NoneFrom from to es) → All (λ e. e.0 < from) es
all-below from [] none = All-nil _
all-below from (e ∷ es) none =
    let below = first-below from (e.0 + 1) e es (none (e.0 + 1)) (omega arith) in
    All-cons (λ x. x.0 < from) e es below (all-below from es (λ to. rest-none from to e es (none to) below))

first-of : (from id : ℕ) (status : Status) (es : Es) → T (is_sorted nat_cmp es) → from ≤ id
    → find nat_cmp id es ≡ Some status → NoneFrom from id es → FirstFrom from es (id, status)
first-of from id status [] sorted late is none = absurd (none-some is)
first-of from id status (e ∷ es) sorted late is none =
    let parts = both-hold (below_all nat_cmp e.0 es) (is_sorted nat_cmp es) sorted in
    elim (cases_lt e.0 id) [
      | inl lt ↦
          let below = first-below from id e es none lt in
          let rest = first-of from id status es parts.1 late
          (sym (find-there id e es (λ same. omega (arith, lt, same))) ∙ is) (rest-none from id e es none below) in record {
            before = e ∷ rest.before;
            more = rest.more;
            is = ap (λ l. e ∷ l) rest.is;
            late = late;
            lesser = All-cons (λ x. x.0 < from) e rest.before below rest.lesser;
            greater = rest.greater;
          }
      | inr ge ↦ elim (cases_lt id e.0) [
        | inl gt ↦ absurd (none-some (sym (find-there id e es (λ same. omega (arith, gt, same))
            ∙ find-below id e.0 es (omega (arith, gt)) parts.0) ∙ is))
        | inr le ↦
            let same : id ≡ e.0 = omega (arith, ge, le) in
            let value = same-state e.1 status (sym (find-here e es)
            ∙ (ap (λ q. find nat_cmp q (e ∷ es)) (sym same) ∙ is)) in record {
              before = [];
              more = es;
              is = ap (λ x. x ∷ es) (λ i. (sym same i, value i));
              late = late;
              lesser = All-nil _;
              greater = subst (λ n. All (λ x. n < x.0) es) (sym same) (above-all e.0 es parts.0);
            }
      ]
    ]

-- no state of a snapshot is of an identifier between two
abbrev Lacks : Snapshot → ℕ → ℕ → Type 0
Lacks states from to = (q : ℕ) → from ≤ q → q < to → get states q ≡ None

none-found : (states : Snapshot) (from to : ℕ) → Lacks states from to → NoneFrom from to (entries states)
none-found states from to lacks q late less = sym (get-entries states q) ∙ lacks q late less

-- what was read of chains is the first that they have at the version
pub first-is : (version from : ℕ) (chains : Chains) (Y : ℕ × ℕ × Bor (Option Shared) → Type 0)
    (r : Option (ℕ × ℕ × Bor (Option Shared))) → MatchOption r (IsFirstAt version from chains None)
    (λ x. IsFirstAt version from chains (Some (x.0, record { version = x.1; value = x.2.now })) × Y x)
    → IsFirstAt version from chains (first_of r)
first-is version from chains Y None h = h
first-is version from chains Y (Some x) h = h.0

-- an identifier that has an entry is in range
pub in-range : StatesStay → (store : StoreTerm) (s : Served) (id : ℕ) → StandsFor store s
    → chain_of store.kept.chains id ≢ [] → IsId id
in-range stay store s id h some = go (chain_of store.kept.chains id) refl
  where
    go : (ks : List Kept) → chain_of store.kept.chains id ≡ ks → IsId id
    go [] e = absurd (some e)
    go (k ∷ ks) e = (stay s.history k.version id (status_of k) h.sound.history
        ((h.chains id).states k (subst (λ l. Contains l k) (sym e) (contains-here k k ks refl)))).0

-- and those behind it are ahead
pub then-ahead : {X : Type 0} (A : Type 0) (B Y : X → Type 0) (r : Option X) → MatchOption r A (λ x. B x × Y x)
    → IfSome r Y
then-ahead A B Y None h = tt
then-ahead A B Y (Some x) h = h.1

-- an identifier that has an entry at a version has one
pub has-one : (version id : ℕ) (chains : Chains) (k : Kept) → IsLatest version (chain_of chains id) (Some k)
    → chain_of chains id ≢ []
has-one version id chains k latest e = let c = (subst (λ ks. Contains ks k) e latest.0).1 in omega (arith, c)

module _ (read : KeptIsRead) (stay : StatesStay) (store : StoreTerm) (version from : ℕ) (s : State)
    (h : StandsFor store (served s)) (keeps : KeepsVersion s version) where
  lacks : (to : ℕ) → ((id : ℕ) → from ≤ id → id < to → IsLatest version (chain_of store.kept.chains id) None)
      → Lacks (snapshot s.history version) from to
  lacks to none q late less = sees read store s version q h keeps stay None (none q late less)

  pub none-first : IsFirstAt version from store.kept.chains None
      → IsFirstFrom from (entries (snapshot s.history version)) None
  none-first none =
      let states = snapshot s.history version in
      all-below from (entries states)
      (λ to. none-found states from to (lacks to (λ id late less. none id late)))

  pub one-first : (id : ℕ) (k : Kept) → IsFirstAt version from store.kept.chains (Some (id, k))
      → IsFirstFrom from (entries (snapshot s.history version)) (Some (id, status_of k))
  one-first id k first =
      let states = snapshot s.history version in
      first-of from id (status_of k) (entries states) (entries_sorted states) first.0
      (sym (get-entries states id) ∙ sees read store s version id h keeps stay (Some k) first.1)
      (none-found states from id (lacks id first.2))
