-- The part of a state that a store in memory represents, and its stretches: those of its callers' steps alone.
use Rattle.std.specs.Prelude.{◌≡◌, ◌+◌, ◌≤◌, ◌++◌, Contains, count_by, List, [], length, map, None, not, refl, Some, true, ℕ}
use Rattle.std.specs.FinMap.{entries, get}
use Rattle.snap_registry.specs.declared.Pin.{Pin}
use Rattle.store_machine.proofs.Joins.{calms-join, runs-join}
use Rattle.store_machine.specs.History.{begun, head, snapshot}
use Rattle.store_machine.specs.Laws.{IsSound}
use Rattle.store_machine.specs.Machine.{is_live, now}
use Rattle.store_machine.specs.Owners.{SameButOwners}
use Rattle.store_machine.specs.Runs.{IsCalm, IsRun}
use Rattle.store_machine.specs.declared.machine.Entry.{Entry}
use Rattle.store_machine.specs.declared.machine.Held.{Held}
use Rattle.store_machine.specs.declared.machine.History.{History}
use Rattle.store_machine.specs.declared.machine.State.{State}
use Rattle.store_machine.specs.declared.machine.Step.{Step}
use Rattle.store_machine.specs.declared.machine.TheConstants.{LAST_GENERATION, LAST_IDENTIFIER}
use Rattle.record_versions.specs.Entries.{chain_of}
use Rattle.store_core.specs.Kept.{IsEntryOf, Kept, KeptTerm, Lists, status_of}

pub record StoreTerm : Type 0 where
  pub kept : KeptTerm
  pub pins : List Pin
  pub version : ℕ
  pub limit : ℕ
  pub live : ℕ
  pub withdrawn : ℕ

-- the part of a state that a store in memory knows: nothing of disks
pub record Served : Type 0 where
  pub history : History
  pub limit : ℕ
  pub pins : List Held
  pub kept : List Entry

abbrev pub served : State → Served
served s = record { history = s.history; limit = s.limit; pins = s.pins; kept = s.kept }

-- It alone as a state: with nothing copied or in doubt and no fault, and a base at the history's. It has no disk to
-- compact, so no generation is left.
abbrev pub alone : Served → State
alone s = record {
  history = s.history;
  limit = s.limit;
  pins = s.pins;
  kept = s.kept;
  base = s.history.version;
  generation = LAST_GENERATION;
  copy = None;
  doubt = None;
  finish = None;
  faults = record
      { a = 0; b = 0 };
  serves = true;
}

-- each kept entry of an identifier has the state that its commit made
pub record IsChain (s : Served) (id : ℕ) (ks : List Kept) : Type 0 where
  pub late : (k : Kept) → Contains ks k → k.version ≤ head s.history
  pub states : (k : Kept) → Contains ks k → get (snapshot s.history k.version) id ≡ Some (status_of k)
  pub records : (k : Kept) → Contains ks k → IsEntryOf id k.value

abbrev pub pin_of : Held → Pin
pin_of p = record { slot = p.slot; version = p.version }

-- the store represents this part of a state, whoever owns the pins
pub record StandsFor (store : StoreTerm) (s : Served) : Type 0 where
  pub sound : IsSound (alone s)
  pub version : store.version ≡ head s.history
  pub limit : store.limit ≡ s.limit
  pub most : store.limit ≤ 16777215
  pub within : store.version ≤ 16777215
  pub pins : map pin_of s.pins ≡ store.pins
  pub kept : Lists s.kept store.kept.chains
  pub few : length s.kept ≤ LAST_IDENTIFIER + store.version
  pub live : store.live ≡ count_by (λ e. is_live e.1) (entries (now (alone s)))
  pub withdrawn : store.withdrawn ≡ count_by (λ e. not (is_live e.1)) (entries (now (alone s)))
  pub ids : store.live + store.withdrawn ≤ LAST_IDENTIFIER + store.version
  pub chains : (id : ℕ) → IsChain s id (chain_of store.kept.chains id)

abbrev pub IsStore : StoreTerm → Type 0
IsStore store = (s : Served) × StandsFor store s

-- The store serves its part of a state. The state's disks are free.
pub record IsServing (store : StoreTerm) (s : State) : Type 0 where
  pub sound : IsSound s
  pub serves : s.serves ≡ true
  pub stands : StandsFor store (served s)

-- The store alone is at a state, which serves. No copy runs, and no finish of one is in doubt. A store in memory has no
-- disk to compact, so no generation is left.
pub record IsAt (store : StoreTerm) (s : State) : Type 0 where
  pub sound : IsSound s
  pub serves : s.serves ≡ true
  pub copy : s.copy ≡ None
  pub finish : s.finish ≡ None
  pub generation : s.generation ≡ LAST_GENERATION
  pub stands : StandsFor store (served s)

-- as `StandsFor` and `IsAt`, at a state with other owners
abbrev pub AsksNoOwner : Type 0
AsksNoOwner = (store : StoreTerm) (s t : State) → SameButOwners s t
    → (StandsFor store (served s) → StandsFor store (served t)) × (IsAt store s → IsAt store t)

-- nothing was committed, and nothing is held. The disks are of the first generation
abbrev pub empty : ℕ → State
empty commits = record {
  history = begun;
  limit = commits;
  pins = [];
  kept = [];
  base = 0;
  generation = 0;
  copy = None;
  doubt = None;
  finish = None;
  faults = record
      { a = 0; b = 0 };
  serves = true;
}

abbrev pub HoldsPin : StoreTerm → ℕ → ℕ → Type 0
HoldsPin store slot version = Contains store.pins (record { slot = slot; version = version })

pub record Stretches (old new : StoreTerm) (s : State) (steps : List Step) (t : State) : Type 0 where
  pub begins : IsAt old s
  pub ends : IsAt new t
  pub run : IsRun s steps t
  pub calm : IsCalm steps

pub stays : (a : StoreTerm) (s : State) → IsAt a s → Stretches a a s [] s
stays a s at = record { begins = at; ends = at; run = refl; calm = tt }

pub joins : (a b c : StoreTerm) (s t u : State) (xs ys : List Step) → Stretches a b s xs t → Stretches b c t ys u
    → Stretches a c s (xs ++ ys) u
joins a b c s t u xs ys r q = record {
  begins = r.begins;
  ends = q.ends;
  run = runs-join xs ys s t u r.run q.run;
  calm = calms-join xs ys r.calm q.calm;
}

pub lands : (a b : StoreTerm) (s t : State) (xs : List Step) → Stretches a b s xs t
    → IsAt b t × IsRun s xs t × IsCalm xs
lands a b s t xs r = (r.ends, r.run, r.calm)

pub same : (a b : StoreTerm) (s t : State) (xs : List Step) (n : ℕ) → Stretches a b s xs t → true ≡ true
same a b s t xs n r = refl
