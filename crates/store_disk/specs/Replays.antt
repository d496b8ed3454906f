-- What a journal is made to in memory, and where that stops. For private clauses alone.
use Rattle.std.specs.Prelude.{◌≡◌, ◌⊎◌, ◌++◌, ◌≤◌, All, List, [], ◌∷◌, map, None, Option, Some, ℕ}
use Rattle.std.specs.List.{AllByRecursion}
use Rattle.commit_log.specs.Base.{entries_of}
use Rattle.commit_log.specs.Change.{Change as Logged, change_of}
use Rattle.commit_log.specs.Entry.{Entry, entry_of}
use Rattle.commit_log.specs.Log.{IsLog, IsLogged, Takes, changes_of, payloads as log_payloads}
use Rattle.commit_log.specs.declared.base.BaseEntry.{BaseEntry}
use Rattle.commit_log.specs.declared.change.Commit.{Commit}
use Rattle.disk_edge.specs.Disk.{DiskModel, IfTold}
use Rattle.disk_pair.specs.Pairs.{OpensAs}
use Rattle.journal_core.specs.Fronts.{IsFront}
use Rattle.journal_core.specs.Journal.{Reads, Rests}
use Rattle.journal_core.specs.Standing.{Standing}
use Rattle.store_core.specs.Based.{based}
use Rattle.store_core.specs.Stored.{IsServing, Served, StandsFor as InMemory, StoreTerm as Memory}
use Rattle.store_machine.specs.History.{HasText, IsHistory, head}
use Rattle.store_machine.specs.Openings.{IsOpened}
use Rattle.store_machine.specs.declared.machine.History.{History}
use Rattle.store_machine.specs.declared.machine.State.{State}
use Rattle.store_disk.specs.Loads.{MayFollow}
use Rattle.store_disk.specs.Payloads.{base_payload, history_of, payloads, told, told_entry, told_history}

-- the store in memory stands for a base of this version alone, which has these entries
abbrev pub HasBased : Memory → ℕ → List Entry → Type 0
HasBased memory version entries = InMemory memory (based version (map told_entry entries))

-- a base stops at the first entry whose text has no structure
pub record LacksText (found : List (ℕ × BaseEntry)) (at : ℕ) : Type 0 where
  pub before : List (ℕ × BaseEntry)
  pub one : ℕ × BaseEntry
  pub more : List (ℕ × BaseEntry)
  pub is : found ≡ before ++ one ∷ more
  pub place : at ≡ one.0
  pub sound : AllByRecursion (λ e. HasText (told_entry e).1) (entries_of before)
  pub none : ¬ HasText (told_entry (entry_of one.1)).1

-- the store in memory stands for a state of this history that was just opened
pub record IsReplayed (memory : Memory) (commits version : ℕ) (entries : List Entry) (changes : List Logged) : Type 0
  where
    pub state : State
    pub serving : IsServing memory state
    pub history : state.history ≡ told_history version entries changes
    pub opened : IsOpened commits state

-- the store in memory stands for a part of this history, with the greatest limit and nothing pinned
pub record Made (memory : Memory) (version : ℕ) (entries : List Entry) (changes : List Logged) : Type 0 where
  pub part : Served
  pub stands : InMemory memory part
  pub history : part.history ≡ told_history version entries changes
  pub limit : part.limit ≡ 16777215
  pub pins : part.pins ≡ []

-- a log stops at the first commit that may not follow the base and those before it
pub record Stops (version : ℕ) (entries : List Entry) (log : List Commit) (at : ℕ) : Type 0 where
  pub before : List Commit
  pub commit : Commit
  pub more : List Commit
  pub is : log ≡ before ++ commit ∷ more
  pub place : at ≡ commit.at
  pub history : IsHistory (told_history version entries (changes_of before))
  pub few : head (told_history version entries (changes_of before)) ≤ 16777215
  pub refused : ¬ MayFollow (told_history version entries (changes_of before)) (told (change_of commit.wire))

-- the store in memory after a base and these commits, or where they stop
abbrev pub HasCome : Memory → Option ℕ → ℕ → List (ℕ × BaseEntry) → List Commit → Type 0
HasCome memory None version base log = Made memory version (entries_of base) (changes_of log)
HasCome memory (Some at) version base log = LacksText base at ⊎ Stops version (entries_of base) log at

-- so it is after a base and the first of these commits, and the others wait
abbrev pub HasTaken : Memory → Option ℕ → List Commit → ℕ → List (ℕ × BaseEntry) → List Commit → Type 0
HasTaken memory stopped waiting version base log =
    (before : List Commit) × (log ≡ before ++ waiting) × HasCome memory stopped version base before

-- a log may have each of these commits
abbrev pub AreLogged : List Commit → Type 0
AreLogged commits = All (λ (c : Commit). IsLogged (change_of c.wire)) commits

-- These are the commits from one record on to the end, at which the journal rests.
pub record IsReadTo {D : Type 0} (model : DiskModel D) (old new : Standing D) (log : List Commit) : Type 0 where
  pub takes : Takes old.place log new.place
  pub is_log : (front : List ℕ) (before : List (List ℕ)) → Reads model old front before
      → IfTold (model.content old.disk) (IsLog front before (changes_of log))
  pub rests : (front : List ℕ) (before : List (List ℕ)) → Reads model old front before
      → Rests model new front (before ++ log_payloads (changes_of log))

-- The journal rests behind the payloads of a history.
pub record RestsAs {D : Type 0} (model : DiskModel D) (journal : Standing D) (generation : ℕ) (h : History) : Type 0
  where
    pub front : List ℕ
    pub is : IsFront (history_of generation h).header (map base_payload h.base) front
    pub rests : Rests model journal front (payloads h)

-- What a loading makes of a journal that was just opened: the store in memory stands for a state that was just opened,
-- and where the disk tells its content, this has the state's history.
pub record IsLoaded {D : Type 0} (model : DiskModel D) (memory : Memory) (commits : ℕ) (old new : Standing D)
    : Type 0 where
  pub state : State
  pub serving : IsServing memory state
  pub opened : IsOpened commits state
  pub header : old.header ≡ (history_of old.header.generation state.history).header
  pub opens : IfTold (model.content old.disk) (OpensAs (history_of old.header.generation state.history))
  pub rests : IfTold (model.content old.disk) (λ _. RestsAs model new old.header.generation state.history)
