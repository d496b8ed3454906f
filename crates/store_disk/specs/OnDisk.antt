-- What the two disks of a store have, at each state of the machine. For callers.
use Rattle.std.specs.Prelude.{◌≡◌, ◌+◌, ◌++◌, ◌-◌, ◌*◌, ◌≤◌, count_by, is_some, length, List, [], nat_le, None, Option, option_map, Some, take, true, ℕ}
use Rattle.std.specs.List.{AllByRecursion}
use Rattle.disk_edge.specs.Disk.{DiskModel, IfTold}
use Rattle.disk_pair.specs.Pairs.{History as Written, State as PairState}
use Rattle.disk_pair.specs.Stands.{StandsFor as PairStandsFor}
use Rattle.disk_pair.specs.Term.{Paired, Progress, disk_a, disk_b, is_doubtful, progress_of}
use Rattle.journal_core.specs.Records.{IsShort}
use Rattle.journal_core.specs.declared.format.TheConstants.{LONGEST_PAYLOAD}
use Rattle.store_core.specs.Stored.{IsServing, StoreTerm as Memory}
use Rattle.store_machine.specs.History.{rebase}
use Rattle.store_machine.specs.Machine.{on_disk}
use Rattle.store_machine.specs.declared.machine.Change.{Change}
use Rattle.store_machine.specs.declared.machine.Copying.{Copying}
use Rattle.store_machine.specs.declared.machine.History.{History}
use Rattle.store_machine.specs.declared.machine.State.{State}
use Rattle.store_machine.specs.declared.machine.TheConstants.{LAST_IDENTIFIER}
use Rattle.store_disk.specs.Payloads.{history_of, payload, payloads}

-- A copy that runs, as memory has it: its version, the identifier from which its next state is sought, how many states
-- it lacks, and the payloads of the commits that it lacks.
pub record CopyTerm : Type 0 where
  pub version : ℕ
  pub from : ℕ
  pub states : ℕ
  pub commits : List (List ℕ)

-- the store in memory, the two disks, and the copy that runs, if one runs
pub record StoreTerm (D : Type 0) : Type 0 where
  pub memory : Memory
  pub pair : Paired D
  pub copy : Option CopyTerm

-- A copy of which the last `left` items are missing. Its items are the base records, and then the commits.
abbrev pub lacking : ℕ → Written → Written
lacking left whole = record whole {
  base = take (length whole.base + length whole.commits - left) whole.base;
  commits = take (length whole.commits - left) whole.commits;
}

-- the whole copy of a version, in the next generation
abbrev pub whole_copy : State → ℕ → Written
whole_copy s version = history_of (s.generation + 1) (rebase s.history version)

abbrev pub copy_so_far : State → Copying → Written
copy_so_far s copy = lacking copy.left (whole_copy s copy.version)

-- what two disks have at a state of the machine
abbrev pub on_pair : State → PairState
on_pair s = record {
  now = history_of s.generation (on_disk s);
  commit = option_map payload s.doubt;
  finish = option_map (whole_copy s) s.finish;
  copy = option_map (copy_so_far s) s.copy;
}

-- What a copy of a history lacks is what memory has of it. Of the states at its version those of identifiers from one
-- on are left, and of the commits since those behind some. As long as a state is left, each commit is.
pub record Lacks (h : History) (copy : Option Copying) (c : CopyTerm) : Type 0 where
  pub is : copy ≡ Some (record { version = c.version; left = c.states + length c.commits })
  pub states : c.states ≡ count_by (λ e. nat_le c.from e.0) (rebase h c.version).base
  pub made : List (List ℕ)
  pub commits : payloads (rebase h c.version) ≡ made ++ c.commits
  pub first : 1 ≤ c.states → made ≡ []

-- a copy runs where memory has one, and lacks that
abbrev pub HasCopy : History → Option Copying → Option CopyTerm → Type 0
HasCopy h copy None = copy ≡ None
HasCopy h copy (Some c) = Lacks h copy c

-- the header of a running copy's disk is that of the whole copy, in the generation after this one
abbrev pub HasHeader : ℕ → History → Option CopyTerm → Option Progress → Type 0
HasHeader generation h None p = Unit {0}
HasHeader generation h (Some c) None = ⊥
HasHeader generation h (Some c) (Some p) = p.header ≡ (history_of (generation + 1) (rebase h c.version)).header

-- P where both disks tell their contents
abbrev pub IfBothTold : {D : Type 0} → DiskModel D → Paired D → Type 0 → Type 0
IfBothTold model pair P = IfTold (model.content (disk_a pair)) (λ _. IfTold (model.content (disk_b pair)) (λ _. P))

-- The doubts of a state are known, also over disks that tell no content. The journal is in doubt exactly where a commit
-- is, and a finish is in doubt only where the other disk is known to be doubtful.
pub record AreKnown {D : Type 0} (pair : Paired D) (doubt : Option Change) (finish : Option ℕ) : Type 0 where
  pub commit : pair.journal.doubt ≡ is_some doubt
  pub other : is_some finish ≡ true → is_doubtful pair.other ≡ true

-- The store stands for a state. What is in memory serves it. The current disk's header is that of the history from its
-- base on. Where both disks tell their contents, they have this history, the commit and the finish in doubt, and the
-- copy so far. A copy runs where memory has one. The counts of faults are those of the disks. Whose the pins are is
-- free.
pub record StandsFor {D : Type 0} (model : DiskModel D) (store : StoreTerm D) (s : State) : Type 0 where
  pub memory : IsServing store.memory s
  pub header : store.pair.journal.header ≡ (on_pair s).now.header
  pub pair : IfBothTold model store.pair (PairStandsFor model store.pair (on_pair s))
  pub copy : HasCopy s.history s.copy store.copy
  pub copied : HasHeader s.generation s.history store.copy (progress_of store.pair.other)
  pub doubts : AreKnown store.pair s.doubt s.finish
  pub counts : s.faults ≡ record { a = model.faults (disk_a store.pair); b = model.faults (disk_b store.pair) }

-- a payload that a journal takes
abbrev pub IsPayload : List ℕ → Type 0
IsPayload payload = (1 ≤ length payload) × IsShort payload

-- The copy on the disk is as far as memory knows, and its length is far below the end of places. For private clauses
-- alone.
pub record Follows (version : ℕ) (c : CopyTerm) (p : Progress) : Type 0 where
  pub bases : p.bases + c.states ≡ p.header.base_count
  pub few : p.header.base_count ≤ LAST_IDENTIFIER + 16777215
  pub fit : AllByRecursion IsPayload c.commits
  pub past : c.version + length c.commits ≤ version
  pub place : p.place ≤ 20 + (5 + LONGEST_PAYLOAD) * (p.bases + (version - (c.version + length c.commits)))

-- One runs there where memory has one. For private clauses alone.
abbrev pub Follow : ℕ → Option CopyTerm → Option Progress → Type 0
Follow version None p = p ≡ None
Follow version (Some c) None = ⊥
Follow version (Some c) (Some p) = Follows version c p

abbrev pub IsFollowed : CopyTerm → Option Progress → Type 0
IsFollowed c p = (version : ℕ) × (version ≤ 16777215) × Follow version (Some c) p

-- A store between two calls: memory serves some state, in which a copy runs where memory has one, and the current
-- disk's journal is at a place far below the end of places. For private clauses alone.
pub record IsReady {D : Type 0} (memory : Memory) (pair : Paired D) (copy : Option CopyTerm) : Type 0 where
  pub stands : (s : State) × IsServing memory s × HasCopy s.history s.copy copy
  pub few : memory.version ≤ 16777215
  pub bases : pair.journal.header.base_count ≤ 4294967295
  pub place : pair.journal.place ≤ 20 + (5 + LONGEST_PAYLOAD) * (pair.journal.header.base_count + memory.version)
  pub copying : Follow memory.version copy (progress_of pair.other)
