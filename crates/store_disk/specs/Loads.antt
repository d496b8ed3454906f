-- What the bytes of two disks open to as a store, and where they are damaged. For callers.
use Rattle.std.specs.Prelude.{◌≡◌, ◌⊎◌, ◌++◌, ◌<◌, ◌≤◌, Err, List, [], ◌∷◌, length, Ok, Result, Some, ℕ}
use Rattle.std.specs.List.{AllByRecursion}
use Rattle.commit_log.specs.Base.{AreEntries, DamagesBase, base_payloads}
use Rattle.commit_log.specs.Change.{Change as Logged}
use Rattle.commit_log.specs.Entry.{Entry}
use Rattle.commit_log.specs.Log.{DamagesLog, IsLog, payloads as log_payloads}
use Rattle.disk_pair.specs.Pairs.{PairOpens, Picks}
use Rattle.disk_pair.specs.Term.{disk_a, disk_b}
use Rattle.journal_core.specs.Fronts.{IsFront, IsPeeked, front_of}
use Rattle.journal_core.specs.Records.{prefix}
use Rattle.journal_core.specs.declared.faults.LoadFault.{LoadFault}
use Rattle.journal_core.specs.declared.header.Header.{Header}
use Rattle.store_machine.specs.History.{HasText, IsAllowed, IsHistory, IsValid, head, snapshot}
use Rattle.store_machine.specs.Machine.{MayBeLeft}
use Rattle.store_machine.specs.declared.machine.Change.{Change}
use Rattle.store_machine.specs.declared.machine.History.{History}
use Rattle.store_machine.specs.declared.machine.State.{State}
use Rattle.store_disk.specs.OnDisk.{StoreTerm}
use Rattle.store_disk.specs.Payloads.{history_of, told, told_entry, told_history}
use Rattle.store_disk.specs.declared.disks.Disks.{Disks}

-- Two disks open to a history, in a generation. It is no longer than a store may have.
pub record OpensTo (h : History) (generation : ℕ) (a b : List ℕ) : Type 0 where
  pub history : IsHistory h
  pub few : head h ≤ 16777215
  pub opens : PairOpens (history_of generation h) a b

-- Damage of one disk that is open. The version of its base is greater than a store may have: at the version's place.
pub record IsLate (at : ℕ) (bytes : List ℕ) : Type 0 where
  pub header : Header
  pub is : IsPeeked (Some header) bytes
  pub late : 16777215 < header.base_version
  pub place : at ≡ 12

-- its base is damaged
pub record DamagesStates (at : ℕ) (bytes : List ℕ) : Type 0 where
  pub header : Header
  pub is : IsPeeked (Some header) bytes
  pub few : header.base_version ≤ 16777215
  pub damage : DamagesBase header [] header.base_count at bytes

-- What stands in front of the commits is a header and the base records of these entries.
pub record IsBegun (header : Header) (entries : List Entry) (front : List ℕ) : Type 0 where
  pub is : IsFront header (base_payloads entries) front
  pub are : AreEntries header.base_version 0 entries
  pub few : header.base_version ≤ 16777215

-- the base is whole, and the log behind it is damaged
pub record DamagesCommits (at : ℕ) (bytes : List ℕ) : Type 0 where
  pub header : Header
  pub entries : List Entry
  pub front : List ℕ
  pub begun : IsBegun header entries front
  pub damage : DamagesLog front [] at bytes

-- The entry at a place is the first of a base whose text has no structure.
pub record LacksStructure (header : Header) (entries : List Entry) (at : ℕ) : Type 0 where
  pub before : List Entry
  pub entry : Entry
  pub more : List Entry
  pub is : entries ≡ before ++ entry ∷ more
  pub place : at ≡ length (front_of header (base_payloads before))
  pub sound : AllByRecursion (λ e. HasText (told_entry e).1) before
  pub none : ¬ HasText (told_entry entry).1

-- the change may come after a history
abbrev pub MayFollow : History → Change → Type 0
MayFollow h c = IsValid c × IsAllowed (snapshot h (head h)) c × (head h < 16777215)

-- The commit at a place is the first that may not follow the base and the commits before it.
pub record MayNotFollow (version : ℕ) (entries : List Entry) (front : List ℕ) (changes : List Logged) (at : ℕ) : Type 0
  where
    pub before : List Logged
    pub change : Logged
    pub more : List Logged
    pub is : changes ≡ before ++ change ∷ more
    pub place : at ≡ length (prefix front (log_payloads before))
    pub history : IsHistory (told_history version entries before)
    pub few : head (told_history version entries before) ≤ 16777215
    pub refused : ¬ MayFollow (told_history version entries before) (told change)

-- the base and the log are whole, and no history
pub record Disallows (at : ℕ) (bytes : List ℕ) : Type 0 where
  pub header : Header
  pub entries : List Entry
  pub front : List ℕ
  pub changes : List Logged
  pub begun : IsBegun header entries front
  pub log : IsLog front [] changes bytes
  pub refused : LacksStructure header entries at
      ⊎ MayNotFollow header.base_version entries front changes at

-- One disk is damaged at a place: its base's version or its base is, or else its log is, or else they are no history.
abbrev pub DamagesDisk : ℕ → List ℕ → Type 0
DamagesDisk at bytes = IsLate at bytes
    ⊎ (DamagesStates at bytes ⊎ (DamagesCommits at bytes ⊎ Disallows at bytes))

-- Two disks are damaged at a place of the one that is read.
pub record Damages (at : ℕ) (a b : List ℕ) : Type 0 where
  pub read : List ℕ
  pub picks : Picks a b read
  pub damages : DamagesDisk at read

-- two images open to what may be left of a state, after a call
abbrev pub OpensAfter : State → List ℕ → List ℕ → Type 0
OpensAfter s a b = (h : History) × (generation : ℕ) × MayBeLeft s h generation × OpensTo h generation a b

-- the disks that a loading leaves, in the store or beside the fault
abbrev pub a_after : {D : Type 0} → Result (StoreTerm D) (LoadFault × Disks D) → D
a_after (Ok store) = disk_a store.pair
a_after (Err refused) = refused.1.a

abbrev pub b_after : {D : Type 0} → Result (StoreTerm D) (LoadFault × Disks D) → D
b_after (Ok store) = disk_b store.pair
b_after (Err refused) = refused.1.b
