-- What a reader finds of an identifier at a version that is kept is the snapshot.
use Rattle.std.proofs.Common.{◌≡◌, ◌<◌, ◌≤◌, ◌∙◌, ap, arith, Contains, IfSome, MatchOption, None, Option, option_map, refl, Some, subst, sym, ℕ}
use Rattle.std.proofs.lemmas.List.Elements.{All-contains}
use Rattle.std.specs.Arc.{arc_value}
use Rattle.std.specs.FinMap.{get}
use Rattle.record_versions.specs.Entries.{IsLatest, chain_of}
use Rattle.store_machine.specs.History.{made_at, snapshot}
use Rattle.store_machine.specs.Laws.{KeptIsRead, StatesStay}
use Rattle.store_machine.specs.Made.{IsKept}
use Rattle.store_machine.specs.declared.machine.State.{State}
use Rattle.store_machine.specs.declared.machine.Status.{Status}
use Rattle.store_machine.specs.declared.machine.Status.TheVariants.{Withdrawn}
use Rattle.store_core.specs.Copied.{KeepsVersion}
use Rattle.store_core.specs.Kept.{IsEntryOf, Kept, record_of, status_in, status_of}
use Rattle.store_core.specs.Records.{IsRecord, Shared}
use Rattle.store_core.specs.Stored.{Served, StandsFor, StoreTerm, alone, served}
use Rattle.store_core.proofs.Copied.{with-copy, with-copy-sound, with-copy-used}

pub made-of : (k : Kept) → made_at (status_of k) ≡ k.version
made-of k = go k.version k.value
  where
    go : (version : ℕ) (entry : Option Shared) → made_at (status_in version entry) ≡ version
    go version None = refl
    go version (Some r) = refl

state-in : Option Status → Status
state-in None = Withdrawn 0
state-in (Some status) = status

pub same-state : (a b : Status) → Some a ≡ Some b → a ≡ b
unfolding state-in
same-state a b e = ap state-in e

module _ (store : StoreTerm) (s : Served) (h : StandsFor store s) where
  pub kept-in : (id : ℕ) (k : Kept) → Contains (chain_of store.kept.chains id) k → IsKept (alone s) id k.version
  kept-in id k c = (h.kept.exactly (record { id = id; version = k.version })).1 (k, c, refl)

  pub kept-has : (id version : ℕ) → IsKept (alone s) id version
      → (k : Kept) × Contains (chain_of store.kept.chains id) k × (k.version ≡ version)
  kept-has id version c = (h.kept.exactly (record { id = id; version = version })).0 c

  -- the record of a latest entry
  pub entry-of : (id v : ℕ) (o : Option Kept) → IsLatest v (chain_of store.kept.chains id) o
      → IfSome o (λ k. IsEntryOf id k.value)
  entry-of id v None latest = tt
  entry-of id v (Some k) latest = (h.chains id).records k latest.0

  pub own-record : (id v : ℕ) (o : Option Kept) (shared : Shared) → IsLatest v (chain_of store.kept.chains id) o
      → record_of o ≡ Some shared → IsRecord (arc_value shared)
  own-record id v None shared latest value = absurd (none-some value)
    where
      none-some : {X : Type 0} {x : X} → None ≡ Some x → ⊥
      none-some e = cc
  own-record id v (Some k) shared latest value = (subst (IsEntryOf id) value ((h.chains id).records k latest.0)).0

-- the latest entry of a state
pub record LatestOf (store : StoreTerm) (v id : ℕ) (status : Status) : Type 0 where
  pub k : Kept
  pub latest : IsLatest v (chain_of store.kept.chains id) (Some k)
  pub version : k.version ≡ made_at status

abbrev Reads : Served → ℕ → ℕ → Option Status → Type 0
Reads s v id o = MatchOption o ((version : ℕ) → IsKept (alone s) id version → v < version)
    (λ status. IsKept (alone s) id (made_at status) × (made_at status ≤ v)
    × ((version : ℕ) → IsKept (alone s) id version → version ≤ v → version ≤ made_at status))

module _ (read : KeptIsRead) (store : StoreTerm) (s : State) (v id : ℕ) (h : StandsFor store (served s))
    (keeps : KeepsVersion s v) where
  reads : Reads (served s) v id (get (snapshot s.history v) id)
  reads = read (with-copy store s h v) v id (with-copy-sound store s h v keeps) refl (with-copy-used store s h v)

  pub latest-of : (status : Status) → get (snapshot s.history v) id ≡ Some status → LatestOf store v id status
  latest-of status e =
      let r = subst (Reads (served s) v id) e reads in
      let t = kept-has store (served s) h id (made_at status) r.0 in record {
        k = t.0;
        latest = (
          t.1,
          (let early = r.1 in omega (arith, early, t.2)),
          λ l c le. let top = r.2 l.version (kept-in store (served s) h id l c) le in omega (arith, top, t.2),
        );
        version = t.2;
      }

  pub sees : StatesStay → (o : Option Kept) → IsLatest v (chain_of store.kept.chains id) o
      → get (snapshot s.history v) id ≡ option_map status_of o
  sees stay o latest = go (get (snapshot s.history v) id) refl reads o latest
    where
      go : (x : Option Status) → get (snapshot s.history v) id ≡ x → Reads (served s) v id x
          → (o : Option Kept) → IsLatest v (chain_of store.kept.chains id) o
          → get (snapshot s.history v) id ≡ option_map status_of o
      go None e r None l = e
      go None e r (Some k) l =
          let late = r k.version (kept-in store (served s) h id k l.0) in
          let le = l.1 in absurd (omega (arith, late, le))
      go (Some status) e r None l =
          let t = kept-has store (served s) h id (made_at status) r.0 in
          let late = All-contains (λ (k : Kept). v < k.version) (chain_of store.kept.chains id) t.0 l t.1 in
          let early = r.1 in absurd (omega (arith, late, early, t.2))
      go (Some status) e r (Some k) l =
          let t = kept-has store (served s) h id (made_at status) r.0 in
          let early = r.1 in
          let up = l.2 t.0 t.1 (omega (arith, early, t.2)) in
          let down = r.2 k.version (kept-in store (served s) h id k l.0) l.1 in
          let same : k.version ≡ made_at status = omega (arith, up, down, t.2) in
          let then : get (snapshot s.history k.version) id ≡ Some status =
          subst (λ n. get (snapshot s.history n) id ≡ Some status) (sym same)
          (stay s.history v id status h.sound.history e).3 in
          e ∙ ap (λ x. Some x) (same-state status (status_of k) (sym then ∙ (h.chains id).states k l.0))
