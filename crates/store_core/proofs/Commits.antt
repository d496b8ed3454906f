-- A commit, as a store makes it.
use Rattle.std.proofs.Common.{◌≡◌, ◌+◌, ◌++◌, ◌<◌, ◌≤◌, ◌⊎◌, ◌∙◌, ap, arith, Contains, count_by, inl, inr, length, length-append, List, [], ◌∷◌, None, not, Option, option_map, refl, Some, subst, sym, true, ℕ, nat_cmp}
use Rattle.std.proofs.lemmas.Bool.{cond-true}
use Rattle.std.specs.Arc.{arc_value}
use Rattle.std.specs.Cmp.{nat_cmp_total}
use Rattle.std.specs.FinMap.{entries, get, get-insert, insert}
use Rattle.record_versions.specs.Entries.{IsLatest, chain_of, entries as all_entries}
use Rattle.std.specs.Ordering.{eq_by_cmp}
use Rattle.store_machine.specs.History.{IsAllowed, IsHistory, IsValid, Snapshot, after_change, grown, head, id_of, refusal, snapshot, unless_live}
use Rattle.store_machine.specs.Laws.{CommitsChange, KeptIsRead, RunsStaySound, SnapshotsStay, StatesStay}
use Rattle.store_machine.specs.Machine.{Gives, MayAdd, committed, is_live, now}
use Rattle.store_machine.specs.declared.machine.Change.{Change as Told}
use Rattle.store_machine.specs.declared.machine.Change.TheVariants as told
use Rattle.store_machine.specs.declared.machine.Event.TheVariants as event
use Rattle.store_machine.specs.declared.machine.Reply.TheVariants as reply
use Rattle.store_machine.specs.declared.machine.State.{State}
use Rattle.store_machine.specs.declared.machine.Status.{Status}
use Rattle.store_machine.specs.declared.machine.Status.TheVariants.{Live, Withdrawn}
use Rattle.store_machine.specs.declared.machine.TheConstants.{LAST_IDENTIFIER}
use Rattle.store_core.specs.Kept.{IsEntryOf, Kept, Lists, status_in, status_of}
use Rattle.store_core.specs.Replies.{Counts, IsSoundChange, MayCount, change_of, left_by, refusal_by}
use Rattle.store_core.specs.Stored.{IsChain, Served, StandsFor, StoreTerm, alone, served}
use Rattle.store_core.specs.declared.words.Change.{Change}
use Rattle.store_core.specs.declared.words.Change.TheVariants.{Register, Revise, Withdraw}
use Rattle.store_core.proofs.Copied.{head-kept}
use Rattle.store_core.proofs.Counts.{count-get, count-insert, one_if, one_in}
use Rattle.store_core.proofs.Indexed.{Adds, added-has}
use Rattle.store_core.proofs.Listed.{lists-more}
use Rattle.store_core.proofs.OneCall.{serves}
use Rattle.store_core.proofs.Rows.{sound-after}
use Rattle.store_core.proofs.Sees.{sees}

no-some : {X : Type 0} {x : X} → Some x ≡ None → ⊥
no-some e = cc

tied : (a : ℕ) → eq_by_cmp nat_cmp a a ≡ true
tied a = grind arith

-- the state that a change makes
abbrev pub made_by : ℕ → Told → Status
made_by version (told.Register id format text) = Live version format text
made_by version (told.Revise id format text) = Live version format text
made_by version (told.Withdraw id) = Withdrawn version

inserts : (version : ℕ) (c : Told) (states : Snapshot) → after_change version c states
    ≡ insert states (id_of c) (made_by version c)
inserts version (told.Register id format text) states = refl
inserts version (told.Revise id format text) states = refl
inserts version (told.Withdraw id) states = refl

left-status : (version : ℕ) (c : Change) → status_in version (left_by c) ≡ made_by version (change_of c)
left-status version (Register r) = refl
left-status version (Revise r) = refl
left-status version (Withdraw id) = refl

left-entry : (c : Change) → IsSoundChange c → IsEntryOf (id_of (change_of c)) (left_by c)
left-entry (Register r) sound = (sound, refl)
left-entry (Revise r) sound = (sound, refl)
left-entry (Withdraw id) sound = tt

-- a live identifier is in range
some-state : (o : Option Status) → unless_live o ≡ None → (status : Status) × (o ≡ Some status)
some-state None e = absurd (no-some e)
some-state (Some status) e = (status, refl)

pub valid-change : StatesStay → (s : State) (c : Change) → IsHistory s.history → IsSoundChange c
    → IsAllowed (now s) (change_of c) → IsValid (change_of c)
valid-change stay s (Register r) good sound allowed = (sound.id, ((arc_value r).mol, sound.structure))
valid-change stay s (Revise r) good sound allowed = (sound.id, ((arc_value r).mol, sound.structure))
valid-change stay s (Withdraw id) good sound allowed = let o = some-state (get (now s) id) allowed
    in (stay s.history (head s.history) id o.0 good o.1).0

-- counts, by what the identifier was
counts-after : (version : ℕ) (c : Change) (o : Option Status) (live withdrawn live' withdrawn' a a' b b' : ℕ)
    → refusal_by o c ≡ None → Counts c live withdrawn live' withdrawn' → live ≡ a → withdrawn ≡ b
    → a' + one_in is_live o ≡ a + one_if (is_live (made_by version (change_of c)))
    → b' + one_in (λ x. not (is_live x)) o ≡ b + one_if (not (is_live (made_by version (change_of c))))
    → (live' ≡ a') × (withdrawn' ≡ b')
counts-after version (Register r) None live withdrawn live' withdrawn' a a' b b' allowed counts e f g
    h = (omega (arith, counts.0, e, g), omega (arith, counts.1, f, h))
counts-after version (Register r) (Some status) live withdrawn live' withdrawn' a a' b b' allowed counts e f g
    h = absurd (no-some allowed)
counts-after version (Revise r) None live withdrawn live' withdrawn' a a' b b' allowed counts e f g h = absurd
    (no-some allowed)
counts-after version (Revise r) (Some (Live v format text)) live withdrawn live' withdrawn' a a' b b' allowed counts e f
    g h = (omega (arith, counts.0, e, g), omega (arith, counts.1, f, h))
counts-after version (Revise r) (Some (Withdrawn v)) live withdrawn live' withdrawn' a a' b b' allowed counts e f g
    h = absurd (no-some allowed)
counts-after version (Withdraw id) None live withdrawn live' withdrawn' a a' b b' allowed counts e f g h = absurd
    (no-some allowed)
counts-after version (Withdraw id) (Some (Live v format text)) live withdrawn live' withdrawn' a a' b b' allowed counts
    e f g h = (omega (arith, counts.0, e, g), omega (arith, counts.1, f, h))
counts-after version (Withdraw id) (Some (Withdrawn v)) live withdrawn live' withdrawn' a a' b b' allowed counts e f g
    h = absurd (no-some allowed)

-- with each commit there is at most one more
counts-few : (c : Change) (live withdrawn live' withdrawn' most : ℕ) → Counts c live withdrawn live' withdrawn'
    → live + withdrawn ≤ most → live' + withdrawn' ≤ most + 1
counts-few (Register r) live withdrawn live' withdrawn' most counts le = omega (arith, counts.0, counts.1, le)
counts-few (Revise r) live withdrawn live' withdrawn' most counts le = omega (arith, counts.0, counts.1, le)
counts-few (Withdraw id) live withdrawn live' withdrawn' most counts le = omega (arith, counts.0, counts.1, le)

-- a change is refused by what its identifier is
pub refusal-is : (states : Snapshot) (c : Change) → refusal states (change_of c)
    ≡ refusal_by (get states (id_of (change_of c))) c
refusal-is states (Register r) = refl
refusal-is states (Revise r) = refl
refusal-is states (Withdraw id) = refl

-- what an identifier's entries were they are after the commit
module _ (snapshots : SnapshotsStay) (change : CommitsChange) (s : Served) (c : Told) (k : Kept)
    (at : k.version ≡ head s.history + 1) (is : status_of k ≡ made_by (head s.history + 1) c)
    (entry : IsEntryOf (id_of c) k.value) where
  then-state : (q : ℕ) (l : Kept) → l.version ≤ head s.history
      → get (snapshot s.history l.version) q ≡ Some (status_of l)
      → get (snapshot (grown s.history (c ∷ [])) l.version) q ≡ Some (status_of l)
  then-state q l le e = ap (λ m. get m q) (snapshots s.history (c ∷ []) l.version le) ∙ e

  later-head : head (grown s.history (c ∷ [])) ≡ head s.history + 1
  later-head = omega (arith, length-append s.history.commits (c ∷ []))

  new-state : get (snapshot (grown s.history (c ∷ [])) k.version) (id_of c) ≡ Some (status_of k)
  new-state =
      ap (λ v. get (snapshot (grown s.history (c ∷ [])) v) (id_of c)) at
      ∙ (ap (λ m. get m (id_of c)) (change s.history c ∙ inserts (head s.history + 1) c (now (alone s)))
      ∙ (get-insert nat_cmp_total (now (alone s)) (id_of c) (made_by (head s.history + 1) c) (id_of c)
      ∙ (cond-true (eq_by_cmp nat_cmp (id_of c) (id_of c)) (Some (made_by (head s.history + 1) c))
      (get (now (alone s)) (id_of c)) (tied (id_of c)) ∙ ap (λ x. Some x) (sym is))))

  -- of each entry of a chain: an older one, or the new one
  each : (ks : List Kept) (q : ℕ) (P : Kept → Type 0) → ((l : Kept) → Contains ks l → P l) → (q ≡ id_of c → P k)
      → (l : Kept) → Contains ks l ⊎ ((q ≡ id_of c) × (k ≡ l)) → P l
  each ks q P old new l (inl d) = old l d
  each ks q P old new l (inr e) = subst P e.1 (new e.0)

  pub next-chain : (q : ℕ) (ks new : List Kept)
      → ((l : Kept) → Contains new l → Contains ks l ⊎ ((q ≡ id_of c) × (k ≡ l)))
      → IsChain s q ks → IsChain (served (committed (alone s) c)) q new
  next-chain q ks new which h = record {
    late = λ l d. each ks q (λ x. x.version ≤ head (grown s.history (c ∷ [])))
        (λ x f. let le = h.late x f in omega (arith, le, later-head)) (λ _. omega (arith, at, later-head)) l
        (which l d);
    states = λ l d. each ks q (λ x. get (snapshot (grown s.history (c ∷ [])) x.version) q ≡ Some (status_of x))
        (λ x f. then-state q x (h.late x f) (h.states x f))
        (λ e. subst (λ i. get (snapshot (grown s.history (c ∷ [])) k.version) i ≡ Some (status_of k)) (sym e) new-state)
        l (which l d);
    records = λ l d. each ks q (λ x. IsEntryOf q x.value) h.records
        (λ e. subst (λ i. IsEntryOf i k.value) (sym e) entry) l (which l d);
  }

-- what was committed, as fields of the store
pub record Committing (store new : StoreTerm) (c : Change) (k : Kept) : Type 0 where
  pub chains : Adds store.kept.chains new.kept.chains (id_of (change_of c)) k
  pub more : length (all_entries new.kept.chains) ≡ length (all_entries store.kept.chains) + 1
  pub pins : new.pins ≡ store.pins
  pub version : new.version ≡ store.version + 1
  pub limit : new.limit ≡ store.limit
  pub counts : Counts c store.live store.withdrawn new.live new.withdrawn
  pub at : k.version ≡ store.version + 1
  pub left : k.value ≡ left_by c
  pub sound : IsSoundChange c

pub record Laws : Type 0 where
  pub commits : CommitsChange
  pub sound : RunsStaySound
  pub snapshots : SnapshotsStay
  pub states : StatesStay

commit-gives : (store new : StoreTerm) (s : Served) (c : Change) (k : Kept) → StandsFor store s
    → Committing store new c k → MayAdd (alone s) (change_of c)
    → Gives (alone s) 0 (event.Commit (change_of c)) (reply.Committed new.version) (committed (alone s) (change_of c))
commit-gives store new s c k h m may = (
  serves (alone s) refl,
  (may, omega (arith, m.version, h.version), refl),
)

pub commit-stands : Laws → (store new : StoreTerm) (s : Served) (c : Change) (k : Kept) → StandsFor store s
    → Committing store new c k → MayAdd (alone s) (change_of c)
    → StandsFor new (served (committed (alone s) (change_of c)))
commit-stands laws store new s c k h m may =
    let told = change_of c in
    let t : State = committed (alone s) told in
    let at : k.version ≡ head s.history + 1 = omega (arith, m.at, h.version) in
    let is : status_of k ≡ made_by (head s.history + 1) told = ap (status_in k.version) m.left
    ∙ (left-status k.version c ∙ ap (λ v. made_by v told) at) in
    let entry : IsEntryOf (id_of told) k.value = subst (IsEntryOf (id_of told)) (sym m.left) (left-entry c m.sound) in
    let later : head (grown s.history (told ∷ [])) ≡ head s.history + 1 =
    omega (arith, length-append s.history.commits (told ∷ [])) in
    let state : now t ≡ insert (now (alone s)) (id_of told) (made_by (head s.history + 1) told) =
    ap (λ v. snapshot (grown s.history (told ∷ [])) v) later
    ∙ (laws.commits s.history told ∙ inserts (head s.history + 1) told (now (alone s))) in
    let live = ap (λ (n : Snapshot). count_by (λ e. is_live e.1) (entries n)) state in
    let gone = ap (λ (n : Snapshot). count_by (λ e. not (is_live e.1)) (entries n)) state in
    let counted = counts-after (head s.history + 1) c (get (now (alone s)) (id_of told)) store.live store.withdrawn
    new.live new.withdrawn _ _ _ _ (sym (refusal-is (now (alone s)) c) ∙ may.1) m.counts h.live h.withdrawn
    (count-insert is_live (now (alone s)) (id_of told) (made_by (head s.history + 1) told))
    (count-insert (λ x. not (is_live x)) (now (alone s)) (id_of told) (made_by (head s.history + 1) told)) in
    let room = may.2 in
    let below : (l : Kept) → Contains (chain_of store.kept.chains (id_of told)) l → l.version < k.version =
    λ l d. let le = (h.chains (id_of told)).late l d in omega (arith, le, at) in
    record {
      sound = sound-after laws.sound (alone s) t 0 (event.Commit told) (reply.Committed new.version)
          (commit-gives store new s c k h m may) h.sound;
      version = omega (arith, m.version, h.version, later);
      limit = m.limit ∙ h.limit;
      most = omega (arith, m.limit, h.most);
      within = omega (arith, m.version, h.version, room, h.limit, h.most);
      pins = h.pins ∙ sym m.pins;
      kept = subst (λ v. Lists (s.kept ++ record { id = id_of told; version = v } ∷ []) new.kept.chains) at
          (lists-more store.kept.chains new.kept.chains (id_of told) k m.chains m.more below s.kept h.kept);
      few = omega (
        arith,
        m.version,
        h.few,
        length-append s.kept
            (record { id = id_of told; version = head s.history + 1 } ∷ []),
      );
      live = counted.0 ∙ sym live;
      withdrawn = counted.1 ∙ sym gone;
      ids = let few = counts-few c store.live store.withdrawn new.live new.withdrawn (LAST_IDENTIFIER + store.version)
          m.counts h.ids in omega (arith, few, m.version);
      chains = λ q. next-chain laws.snapshots laws.commits s told k at is entry q (chain_of store.kept.chains q)
          (chain_of new.kept.chains q)
          (added-has store.kept.chains new.kept.chains (id_of told) k m.chains q) (h.chains q);
    }

-- why a change is refused, as the store finds it
pub now-is : KeptIsRead → StatesStay → (store : StoreTerm) (s : State) (c : Change) (o : Option Kept)
    → StandsFor store (served s) → IsLatest store.version (chain_of store.kept.chains (id_of (change_of c))) o
    → refusal (now s) (change_of c) ≡ refusal_by (option_map status_of o) c
now-is read stay store s c o h latest =
    refusal-is (now s) c
    ∙ ap (λ x. refusal_by x c)
    (sees read store s (head s.history) (id_of (change_of c)) h (head-kept store s h) stay o
    (subst (λ v. IsLatest v (chain_of store.kept.chains (id_of (change_of c))) o) h.version latest))

-- a live identifier is counted
counts-one : (c : Change) (o : Option Status) (live : ℕ) → refusal_by o c ≡ None → one_in is_live o ≤ live
    → MayCount c live
counts-one (Register r) o live allowed le = tt
counts-one (Revise r) o live allowed le = tt
counts-one (Withdraw id) None live allowed le = absurd (no-some allowed)
counts-one (Withdraw id) (Some (Live v format text)) live allowed le = omega (arith, le)
counts-one (Withdraw id) (Some (Withdrawn v)) live allowed le = absurd (no-some allowed)

pub may-count : (store : StoreTerm) (s : Served) (c : Change) → StandsFor store s → MayAdd (alone s) (change_of c)
    → MayCount c store.live
may-count store s c h may =
    let counted = count-get is_live (now (alone s)) (id_of (change_of c)) in
    counts-one c (get (now (alone s)) (id_of (change_of c))) store.live
    (sym (refusal-is (now (alone s)) c) ∙ may.1) (omega (arith, counted, h.live))

-- a change that is not refused may be added
pub may-add : StatesStay → (store : StoreTerm) (s : State) (c : Change) → StandsFor store (served s) → IsSoundChange c
    → refusal (now s) (change_of c) ≡ None → store.version < store.limit → MayAdd s (change_of c)
may-add stay store s c h sound allowed room = (
  valid-change stay s c h.sound.history sound allowed,
  allowed,
  omega (arith, room, h.version, h.limit),
)
