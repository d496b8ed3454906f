-- Failures that are set change nothing of what a store on disks in memory stands for. Where none is set and nothing was
-- committed, it stands for the state with which the machine begins.
use Rattle.std.proofs.Common.{◌≡◌, ◌-◌, ◌++◌, ◌∙◌, ap, arith, Bool, Err, false, inl, inr, List, [], ◌∷◌, map, nat_cmp, None, Ok, OnOk, Option, refl, Result, Some, subst, suc, sym, take, true, zero, ℕ}
use Rattle.std.proofs.lemmas.Bool.{true≢false}
use Rattle.std.specs.FinMap.{empty as none, get, get-empty}
use Rattle.std.specs.List.{AllByRecursion}
use Rattle.std.specs.Result.{is_err}
use Rattle.disk_edge.specs.Disk.{Bounded}
use Rattle.disk_edge.specs.Failures.{bound_of}
use Rattle.disk_edge.specs.Medium.{Medium, model}
use Rattle.disk_edge.specs.MediumLaws.{within}
use Rattle.disk_edge.specs.declared.failures.Failures.{Failures}
use Rattle.disk_pair.specs.Changed.{changed, changed_at, changed_other, is_current}
use Rattle.disk_pair.specs.Pairs.{History as Written, PairOpens, State as PairState}
use Rattle.disk_pair.specs.Stands.{Beside, Has, StandsFor as PairStandsFor}
use Rattle.disk_pair.specs.Term.{Paired, disk_a, disk_b, disk_of}
use Rattle.disk_pair.specs.declared.choice.Which.{Which}
use Rattle.disk_pair.specs.declared.other.Other.{Other}
use Rattle.disk_pair.specs.declared.other.Other.TheVariants.{Idle, Copy}
use Rattle.journal_core.specs.Fronts.{IsFront, IsOpen, no_base}
use Rattle.journal_core.specs.Records.{IsShort, header, prefix, text}
use Rattle.journal_core.specs.Standing.{Standing}
use Rattle.journal_core.specs.declared.format.TheConstants.{CLOSED}
use Rattle.store_core.specs.Stored.{StoreTerm as Memory, empty}
use Rattle.store_machine.specs.History.{after_changes, begun, snapshot}
use Rattle.store_machine.specs.Machine.{AreNeeded}
use Rattle.store_machine.specs.Openings.{IsOpened}
use Rattle.store_machine.specs.declared.machine.Change.{Change}
use Rattle.store_machine.specs.declared.machine.Copying.{Copying}
use Rattle.store_machine.specs.declared.machine.Entry.{Entry}
use Rattle.store_machine.specs.declared.machine.Faults.{Faults}
use Rattle.store_machine.specs.declared.machine.Held.{Held}
use Rattle.store_machine.specs.declared.machine.History.{History}
use Rattle.store_machine.specs.declared.machine.State.{State}
use Rattle.store_machine.specs.declared.machine.Status.{Status}
use Rattle.store_disk.specs.InMemory.{StandsInMemory}
use Rattle.store_disk.specs.Loads.{OpensTo}
use Rattle.store_disk.specs.OnDisk.{CopyTerm, StoreTerm, on_pair}
use Rattle.store_disk.specs.Payloads.{base_payload, history_of, payload}

-- the failures of a disk, set anew
abbrev pub set : (Medium → Failures) → Medium → Medium
set f d = record d { failures = f d }

has-still : (journal : Standing Medium) (f : Failures) (front : List ℕ) (ps : List (List ℕ)) (doubt : Option (List ℕ))
    → Has model journal front ps doubt
    → Has model (record journal { disk = record journal.disk { failures = f } }) front ps doubt
has-still journal f front ps None h =
    (h.0, λ l is. let r = h.1 l is in record { told = r.told; is_told = r.is_told; place = r.place; each = r.each })
has-still journal f front ps (Some p) h = (
  h.0,
  λ l is. let r = h.1 l is in record {
    told = r.told;
    is_told = r.is_told;
    place = r.place;
    each = r.each;
    some = r.some;
    staged = r.staged;
  },
)

beside-still : (f : Medium → Failures) (second : Bool) (g : ℕ) (finish copy : Option Written) (other : Other Medium)
    → Beside model second g finish copy other → Beside model second g finish copy (changed_other (set f) other)
beside-still f second g finish copy (Idle disk doubtful) h = h
beside-still f second g finish copy (Copy carry) h =
    let c = h.1.2 in (
      h.0,
      (
        h.1.0,
        h.1.1,
        record {
          header = c.header;
          next = c.next;
          range = c.range;
          bases = c.bases;
          fit = c.fit;
          copies = λ l is. let k = c.copies l is in record {
            gate = k.gate;
            shut = k.shut;
            gathered = record {
              written = k.gathered.written;
              stands = let d = k.gathered.stands in record { rest = d.rest; is_told = d.is_told; each = d.each };
              is = k.gathered.is;
            };
            place = k.place;
            bases = k.bases;
            fit = k.fit;
            fit_commits = k.fit_commits;
          };
        },
      ),
    )

module _ (f : Medium → Failures) (same : (d : Medium) → (f d).count ≡ d.failures.count) where
  -- with the failures of one disk set anew two disks stand for the same
  current-still : (journal : Standing Medium) (other : Other Medium) (second : Bool) (t : PairState)
      → PairStandsFor model (record { journal = journal; other = other; second = second }) t
      → PairStandsFor model
      (changed_at true (set f) (record { journal = journal; other = other; second = second })) t
  current-still journal other second t p = record {
    front = p.front;
    is_front = p.is_front;
    header = p.header;
    journal = has-still journal (f journal.disk) p.front t.now.commits t.commit p.journal;
    other = p.other;
  }

  other-still : (journal : Standing Medium) (other : Other Medium) (second : Bool) (t : PairState)
      → PairStandsFor model (record { journal = journal; other = other; second = second }) t
      → PairStandsFor model
      (changed_at false (set f) (record { journal = journal; other = other; second = second })) t
  other-still journal other second t p = record {
    front = p.front;
    is_front = p.is_front;
    header = p.header;
    journal = p.journal;
    other = beside-still f second t.now.header.generation t.finish t.copy other p.other;
  }

  -- and a store for the same, where the count stays
  module _ (memory : Memory) (copy : Option CopyTerm) (s : State) where
    abbrev of_pair : Paired Medium → StoreTerm Medium
    of_pair pair = record { memory = memory; pair = pair; copy = copy }

    still : (current : Bool) (journal : Standing Medium) (other : Other Medium) (second : Bool)
        → StandsInMemory (of_pair (record { journal = journal; other = other; second = second })) s
        → StandsInMemory
        (of_pair (changed_at current (set f) (record { journal = journal; other = other; second = second }))) s
    still true journal other false h = record {
      memory = h.memory;
      header = h.header;
      pair = λ l is m it. current-still journal other false (on_pair s) (h.pair l is m it);
      copy = h.copy;
      copied = h.copied;
      doubts = record { commit = h.doubts.commit; other = h.doubts.other };
      counts = h.counts ∙ (λ i. record { a = sym (same journal.disk) i; b = model.faults (disk_of other) });
    }
    still true journal other true h = record {
      memory = h.memory;
      header = h.header;
      pair = λ l is m it. current-still journal other true (on_pair s) (h.pair l is m it);
      copy = h.copy;
      copied = h.copied;
      doubts = record { commit = h.doubts.commit; other = h.doubts.other };
      counts = h.counts ∙ (λ i. record { a = model.faults (disk_of other); b = sym (same journal.disk) i });
    }
    still false journal (Idle disk doubtful) false h = record {
      memory = h.memory;
      header = h.header;
      pair = λ l is m it. other-still journal (Idle disk doubtful) false (on_pair s) (h.pair l is m it);
      copy = h.copy;
      copied = h.copied;
      doubts = record { commit = h.doubts.commit; other = h.doubts.other };
      counts = h.counts ∙ (λ i. record { a = model.faults journal.disk; b = sym (same disk) i });
    }
    still false journal (Idle disk doubtful) true h = record {
      memory = h.memory;
      header = h.header;
      pair = λ l is m it. other-still journal (Idle disk doubtful) true (on_pair s) (h.pair l is m it);
      copy = h.copy;
      copied = h.copied;
      doubts = record { commit = h.doubts.commit; other = h.doubts.other };
      counts = h.counts ∙ (λ i. record { a = sym (same disk) i; b = model.faults journal.disk });
    }
    still false journal (Copy carry) false h = record {
      memory = h.memory;
      header = h.header;
      pair = λ l is m it. other-still journal (Copy carry) false (on_pair s) (h.pair l is m it);
      copy = h.copy;
      copied = h.copied;
      doubts = record { commit = h.doubts.commit; other = h.doubts.other };
      counts = h.counts ∙ (λ i. record { a = model.faults journal.disk; b = sym (same carry.disk) i });
    }
    still false journal (Copy carry) true h = record {
      memory = h.memory;
      header = h.header;
      pair = λ l is m it. other-still journal (Copy carry) true (on_pair s) (h.pair l is m it);
      copy = h.copy;
      copied = h.copied;
      doubts = record { commit = h.doubts.commit; other = h.doubts.other };
      counts = h.counts ∙ (λ i. record { a = sym (same carry.disk) i; b = model.faults journal.disk });
    }

pub once-set : (disk : Which) (store : StoreTerm Medium) (call : Option ℕ) (s : State) → StandsInMemory store s
    → StandsInMemory (record store { pair = changed disk (set (λ d. record d.failures { once = call })) store.pair }) s
once-set disk store call s h = still (λ d. record d.failures { once = call }) (λ d. refl) store.memory store.copy s
    (is_current disk store.pair.second) store.pair.journal store.pair.other store.pair.second h

pub passes-set : (disk : Which) (store : StoreTerm Medium) (calls : Option ℕ) (s : State) → StandsInMemory store s
    → StandsInMemory
    (record store { pair = changed disk (set (λ d. record d.failures { passes = calls })) store.pair }) s
passes-set disk store calls s h = still (λ d. record d.failures { passes = calls }) (λ d. refl) store.memory
    store.copy s (is_current disk store.pair.second) store.pair.journal store.pair.other store.pair.second h

-- no payloads are those of nothing
none-mapped : {A : Type 0} (f : A → List ℕ) (xs : List A) → map f xs ≡ [] → xs ≡ []
none-mapped f [] e = refl
none-mapped f (x ∷ xs) e = cc e

-- what a new store has on its disk
abbrev new-disk : Written
new-disk = record { header = no_base; base = []; commits = [] }

new-front : IsFront no_base [] header
new-front = record {
  is = inl (refl, refl, refl);
  count = refl;
  fit = tt;
  range = record { generation = omega arith; base_version = omega arith; base_count = omega arith };
}

none-open : IsOpen [] → ⊥
none-open (g, inl o) = cc o.0
none-open (g, inr o) = omega (arith, o.0)

-- where nothing was written nothing was committed
pub none-yet : ((h : Written) (front rest b : List ℕ) → IsFront h.header h.base front
    → AllByRecursion IsShort h.commits → ¬ IsOpen b → PairOpens h (prefix front h.commits ++ CLOSED ∷ rest) b)
    → ((h k : Written) (a b : List ℕ) → PairOpens h a b → PairOpens k a b → h ≡ k)
    → (h : History) (g : ℕ) → OpensTo h g (text header []) [] → (h ≡ begun) × (g ≡ 0)
none-yet first one h g o =
    let same = one (history_of g h) new-disk (text header []) [] o.opens
    (first new-disk header [] [] new-front tt none-open) in
    let base = none-mapped base_payload h.base (ap (λ (w : Written). w.base) same) in
    let commits = none-mapped payload h.commits (ap (λ (w : Written). w.commits) same) in
    let version = ap (λ (w : Written). w.header.base_version) same in (
      λ i. record { base = base i; version = version i; commits = commits i },
      ap (λ (w : Written). w.header.generation) same,
    )

pub at-ok : {T E P : Type 0} (r : Result T E) → is_err r ≡ false → OnOk r P → P
at-ok (Ok x) e p = p
at-ok (Err x) e p = absurd (true≢false e)

-- where no failure is set, none is set later
pub none-set : (old new : Option ℕ) → old ≡ Some 0 → Bounded old new → new ≡ Some 0
none-set old new is still =
    let h = still 0 is in
    let none : h.0 ≡ 0 = omega (arith, h.2) in h.1 ∙ ap Some none

no-fault : (d : Medium) → bound_of d.failures ≡ Some 0 → d.failures.count ≡ 0
no-fault d is = let few = within d 0 is in omega (arith, few)

-- at a history without commits no identifier has a state
none-taken : (v : ℕ) → snapshot begun v ≡ none
none-taken v = ap (λ cs. after_changes 0 cs none) (nothing (v - 0))
  where
    nothing : (v : ℕ) → take {A = Change} v [] ≡ []
    nothing zero = refl
    nothing (suc n) = refl

no-state : (v id : ℕ) (status : Status) → get (snapshot begun v) id ≡ Some status → ⊥
no-state v id status e = never status (sym (ap (λ m. get m id) (none-taken v) ∙ get-empty nat_cmp id) ∙ e)
  where
    never : (status : Status) → None ≡ Some status → ⊥
    never status q = cc

-- so nothing is needed
none-needed : (s : State) (kept : List Entry) → s.history ≡ begun → AreNeeded s kept → kept ≡ []
none-needed s [] is needed = refl
none-needed s (entry ∷ kept) is needed =
    let n = (needed.exactly entry).0 (0, omega arith, refl) in
    absurd (no-state n.at entry.id n.status
    (subst (λ h. get (snapshot h n.at) entry.id ≡ Some n.status) is n.state))

first-state : (commits limit : ℕ) (h : History) (pins : List Held) (kept : List Entry) (base generation : ℕ)
    (copy : Option Copying) (doubt : Option Change) (finish : Option ℕ) (faults : Faults) (serves : Bool)
    → h ≡ begun → limit ≡ commits → pins ≡ [] → kept ≡ [] → base ≡ 0 → generation ≡ 0 → copy ≡ None → doubt ≡ None
    → finish ≡ None → faults ≡ record { a = 0; b = 0 } → serves ≡ true
    → record {
      history = h;
      limit = limit;
      pins = pins;
      kept = kept;
      base = base;
      generation = generation;
      copy = copy;
      doubt = doubt;
      finish = finish;
      faults = faults;
      serves = serves;
    } ≡ empty commits
first-state commits limit h pins kept base generation copy doubt finish faults serves e1 e2 e3 e4 e5 e6 e7 e8 e9 e10
    e11 = rw (e1, e2, e3, e4, e5, e6, e7, e8, e9, e10, e11) refl

-- a store that was just opened, without commits and failures, stands for the state with which the machine begins
pub stands-empty : (store : StoreTerm Medium) (commits : ℕ) (s : State) → StandsInMemory store s → IsOpened commits s
    → s.history ≡ begun → s.generation ≡ 0 → bound_of (disk_a store.pair).failures ≡ Some 0
    → bound_of (disk_b store.pair).failures ≡ Some 0 → StandsInMemory store (empty commits)
stands-empty store commits s stands opened none generation a b =
    let none_kept : s.kept ≡ [] = none-needed s s.kept none opened.kept in
    let zero : s.faults ≡ record { a = 0; b = 0 } = stands.counts
    ∙ rw (no-fault (disk_a store.pair) a, no-fault (disk_b store.pair) b) refl in
    let base : s.base ≡ 0 = opened.base ∙ ap (λ (h : History). h.version) none in
    let is : s ≡ empty commits = first-state commits s.limit s.history s.pins s.kept s.base s.generation s.copy s.doubt
    s.finish s.faults s.serves none opened.limit opened.pins none_kept base generation opened.copy opened.doubt
    opened.finish zero stands.memory.serves in
    subst (StandsInMemory store) is stands
