-- The machine: from a state, an owner's call may be answered so, and leave this state. One definition for each row of
-- the table; an answer that no row names is never given.
use Rattle.std.specs.Prelude.{◌≡◌, ◌+◌, ◌++◌, ◌-◌, ◌<◌, ◌≤◌, ◌==◌, ◌^◌, ◌⊎◌, ◌↔◌, AllPairs, Bool, Contains, List, [], ◌∷◌, count_by, false, filter, if◌then◌else◌, length, nat_le, None, not, Option, option_map, Some, take, true, ℕ, ◌≢◌}
use Rattle.std.specs.FinMap.{entries, get}
use Rattle.store_machine.specs.Answers.{AreFound, from_on}
use Rattle.store_machine.specs.History.{IsAllowed, IsValid, Snapshot, grown, head, id_of, rebase, refusal, snapshot}
use Rattle.store_machine.specs.Kept.{IsNeeded, in_use}
use Rattle.store_machine.specs.Structures.{IsScreened}
use Rattle.store_machine.specs.declared.machine.Change.{Change}
use Rattle.store_machine.specs.declared.machine.Copying.{Copying}
use Rattle.store_machine.specs.declared.machine.Entry.{Entry}
use Rattle.store_machine.specs.declared.machine.Event.{Event}
use Rattle.store_machine.specs.declared.machine.Event.TheVariants.{Commit, Compact, Crash, Fetch, Look, Open, Pin, Prune, Stats, Unpin}
use Rattle.store_machine.specs.declared.machine.Faults.{Faults}
use Rattle.store_machine.specs.declared.machine.Found.{Found}
use Rattle.store_machine.specs.declared.machine.Held.{Held}
use Rattle.store_machine.specs.declared.machine.History.{History}
use Rattle.store_machine.specs.declared.machine.Reply.{Reply}
use Rattle.store_machine.specs.declared.machine.Reply.TheVariants.{Absent, Committed, Counted, Crashed, DiskFault, Done, Full, Known, Last, Looked, More, NoMemory, NoPin, Opened, Page, Pinned, Pruned, Unpinned, Withdrawn}
use Rattle.store_machine.specs.declared.machine.State.{State}
use Rattle.store_machine.specs.declared.machine.Status.{Status}
use Rattle.store_machine.specs.declared.machine.Status.TheVariants as status
use Rattle.store_machine.specs.declared.machine.TheConstants.{ITEMS_A_STEP, LAST_GENERATION}

abbrev pub now : State → Snapshot
now s = snapshot s.history (head s.history)

-- Counts of faults. One rose if it is greater afterwards, or as great as it can be
abbrev pub Rose : ℕ → ℕ → Type 0
Rose old new = (old < new) ⊎ (new + 1 ≡ 2 ^ 64)

abbrev pub SomeRose : Faults → Faults → Type 0
SomeRose old new = Rose old.a new.a ⊎ Rose old.b new.b

abbrev pub NoneFell : Faults → Faults → Type 0
NoneFell old new = (old.a ≤ new.a) × (old.b ≤ new.b)

-- the state is this one, but for the counts of faults, which no row mentions
abbrev pub Becomes : State → State → Type 0
Becomes s s' = s' ≡ record s { faults = s'.faults }

-- an older doubt of a commit, and one of a finish, stays or is ended, and the rest stays
abbrev pub StaysOrEnds : {X : Type 0} → Option X → Option X → Type 0
StaysOrEnds old new = (new ≡ old) ⊎ (new ≡ None)

abbrev pub EndsDoubts : State → State → Type 0
EndsDoubts s s' = StaysOrEnds s.doubt s'.doubt × StaysOrEnds s.finish s'.finish
    × Becomes (record s { doubt = s'.doubt; finish = s'.finish }) s'

-- the answer is that a disk failed, and that no disk did
abbrev pub IsDiskFault : Reply → Type 0
IsDiskFault (DiskFault doubt) = Unit {0}
IsDiskFault _ = ⊥

abbrev pub IsSure : Reply → Type 0
IsSure (DiskFault doubt) = ⊥
IsSure _ = Unit {0}

-- Commit. It is allowed, and the head is below the limit
abbrev pub MayAdd : State → Change → Type 0
MayAdd s c = IsValid c × IsAllowed (now s) c × (head s.history < s.limit)

-- a copy that runs has one item more to take
abbrev pub one_more : Copying → Copying
one_more copy = record copy { left = copy.left + 1 }

abbrev pub committed : State → Change → State
committed s c = record s {
  history = grown s.history (c ∷ []);
  kept = s.kept
      ++ record { id = id_of c; version = head s.history + 1 } ∷ [];
  copy = option_map one_more s.copy;
  doubt = None;
  finish = None;
}

abbrev pub DoubtAfter : State → Change → Bool → State → Type 0
DoubtAfter s c true s' = Becomes (record s { doubt = Some c; finish = None }) s'
DoubtAfter s c false s' = EndsDoubts s s'

abbrev pub CommitGives : State → Change → Reply → State → Type 0
CommitGives s c Known s' = (refusal (now s) c ≡ Some Known) × Becomes s s'
CommitGives s c Absent s' = (refusal (now s) c ≡ Some Absent) × Becomes s s'
CommitGives s c Withdrawn s' = (refusal (now s) c ≡ Some Withdrawn) × Becomes s s'
CommitGives s c Full s' = IsAllowed (now s) c × (s.limit ≤ head s.history) × Becomes s s'
CommitGives s c (DiskFault doubt) s' = MayAdd s c × SomeRose s.faults s'.faults × DoubtAfter s c doubt s'
CommitGives s c NoMemory s' = EndsDoubts s s'
CommitGives s c (Committed version) s' = MayAdd s c × (version ≡ head s.history + 1) × Becomes (committed s c) s'
CommitGives s c _ s' = ⊥

-- the pin in a slot
abbrev pub pin_in : ℕ → List Held → Option Held
pin_in slot [] = None
pin_in slot (p ∷ ps) = if p.slot == slot then Some p else pin_in slot ps

-- distinct slots, below 64
abbrev pub SlotsApart : List Held → Type 0
SlotsApart [] = Unit {0}
SlotsApart (p ∷ ps) = (p.slot < 64) × (pin_in p.slot ps ≡ None) × SlotsApart ps

abbrev pub Holds : State → ℕ → ℕ → ℕ → Type 0
Holds s slot owner version = pin_in slot s.pins ≡ Some (record { slot = slot; owner = owner; version = version })

-- Pin: any free slot, at the head
abbrev pub pinned : State → ℕ → ℕ → State
pinned s slot owner = record s { pins = s.pins ++ record { slot = slot; owner = owner; version = head s.history } ∷ [] }

abbrev pub PinGives : State → ℕ → Reply → State → Type 0
PinGives s owner NoPin s' = (length s.pins ≡ 64) × Becomes s s'
PinGives s owner (Pinned slot version) s' =
    (length s.pins < 64) × (slot < 64) × (pin_in slot s.pins ≡ None) × (version ≡ head s.history)
    × Becomes (pinned s slot owner) s'
PinGives s owner _ s' = ⊥

-- Fetch: the first `limit` records from `from` on whose print contains the wanted bits, and whether no other follows
pub record IsPage (states : Snapshot) (want : List Bool) (from limit : ℕ) (records : List Found) (last : Bool) : Type 0
  where
    pub all : List Found
    pub found : AreFound (IsScreened want) states all
    pub first : records ≡ take limit (from_on from all)
    pub end : last ≡ nat_le (length (from_on from all)) limit

abbrev pub FetchGives : State → ℕ → ℕ → List Bool → ℕ → ℕ → Reply → State → Type 0
FetchGives s owner slot want from limit (Page records last) s' =
    (version : ℕ) × Holds s slot owner version × IsPage (snapshot s.history version) want from limit records last
    × Becomes s s'
FetchGives s owner slot want from limit NoMemory s' = (version : ℕ) × Holds s slot owner version × Becomes s s'
FetchGives s owner slot want from limit _ s' = ⊥

-- Unpin
abbrev pub unpinned : State → ℕ → State
unpinned s slot = record s { pins = filter (λ p. not (p.slot == slot)) s.pins }

abbrev pub UnpinGives : State → ℕ → ℕ → Reply → State → Type 0
UnpinGives s owner slot Unpinned s' = (version : ℕ) × Holds s slot owner version × Becomes (unpinned s slot) s'
UnpinGives s owner slot _ s' = ⊥

-- Prune: each entry once, and exactly those that are needed
pub record AreNeeded (s : State) (kept : List Entry) : Type 0 where
  pub exactly : (entry : Entry) → Contains kept entry ↔ IsNeeded s.history (in_use s) entry
  pub distinct : AllPairs (λ x y. x ≢ y) kept

abbrev pub PruneGives : State → Reply → State → Type 0
PruneGives s (Pruned dropped) s' = AreNeeded s s'.kept × (dropped + length s'.kept ≡ length s.kept)
    × Becomes (record s { kept = s'.kept }) s'
PruneGives s _ s' = ⊥

-- Look
abbrev pub LookGives : State → ℕ → Reply → State → Type 0
LookGives s id (Looked status) s' = (status ≡ get (now s) id) × Becomes s s'
LookGives s id NoMemory s' = Becomes s s'
LookGives s id _ s' = ⊥

-- Stats
abbrev pub is_live : Status → Bool
is_live (status.Live version format text) = true
is_live (status.Withdrawn version) = false

abbrev pub StatsGives : State → Reply → State → Type 0
StatsGives s (Counted version live withdrawn kept pins) s' =
    (version ≡ head s.history)
    × (live ≡ count_by (λ e. is_live e.1) (entries (now s)))
    × (withdrawn ≡ count_by (λ e. not (is_live e.1)) (entries (now s)))
    × (kept ≡ length s.kept) × (pins ≡ length s.pins) × Becomes s s'
StatsGives s _ s' = ⊥

-- Compact. No copy runs: one starts at the head, unless no generation is left. Its items are the states there
abbrev pub copying : State → ℕ → ℕ → State
copying s version left = record s { copy = Some (record { version = version; left = left }) }

abbrev pub Starts : State → ℕ → State → Type 0
Starts s left s' = (s.copy ≡ None) × (s.generation < LAST_GENERATION) × (left ≡ length (entries (now s)))
    × Becomes (record (copying s (head s.history) left) { finish = None }) s'

-- one runs, and takes the next of its items
abbrev pub GoesOn : State → ℕ → State → Type 0
GoesOn s left s' = (version before : ℕ) × (s.copy ≡ Some (record { version = version; left = before })) × (1 ≤ before)
    × (left ≡ before - ITEMS_A_STEP) × Becomes (copying s version left) s'

-- one runs that lacks nothing: it may take the place of the disk that is read
abbrev pub IsWhole : State → ℕ → Type 0
IsWhole s version = s.copy ≡ Some (record { version = version; left = 0 })

abbrev pub replaced : State → ℕ → State
replaced s version = record s {
  base = version;
  generation = s.generation + 1;
  copy = None;
  doubt = None;
  finish = None;
}

-- a copy runs, or one may start
abbrev pub MayCopy : State → Type 0
MayCopy s = s.copy ≡ None → s.generation < LAST_GENERATION

-- it is given up, and its finish is in doubt, or an older one's doubt stays or is ended
abbrev pub GivesUp : State → Bool → State → Type 0
GivesUp s true s' = (version : ℕ) × IsWhole s version
    × Becomes (record s { copy = None; finish = Some version }) s'
GivesUp s false s' = MayCopy s × StaysOrEnds s.finish s'.finish
    × Becomes (record s { copy = None; finish = s'.finish }) s'

-- memory ran out: only a part of the step's items may be written
abbrev pub TakesSome : Option Copying → Option Copying → Type 0
TakesSome None new = new ≡ None
TakesSome (Some old) new = (left : ℕ) × (new ≡ Some (record old { left = left })) × (left ≤ old.left)
    × (old.left ≤ left + ITEMS_A_STEP)

abbrev pub CompactGives : State → Reply → State → Type 0
CompactGives s Last s' = (s.copy ≡ None) × (s.generation ≡ LAST_GENERATION) × Becomes s s'
CompactGives s (More left) s' = Starts s left s' ⊎ GoesOn s left s'
CompactGives s (Done generation) s' = (generation ≡ s.generation + 1) × (version : ℕ) × IsWhole s version
    × Becomes (replaced s version) s'
CompactGives s (DiskFault doubt) s' = SomeRose s.faults s'.faults × GivesUp s doubt s'
CompactGives s NoMemory s' = TakesSome s.copy s'.copy × StaysOrEnds s.finish s'.finish
    × Becomes (record s { copy = s'.copy; finish = s'.finish }) s'
CompactGives s _ s' = ⊥

-- The history of the disk that is read: from its base on
abbrev pub on_disk : State → History
on_disk s = rebase s.history s.base

-- the history of the copy of a version: from this version on, in the next generation
abbrev pub IsOfCopy : State → ℕ → History → ℕ → Type 0
IsOfCopy s version h generation = (h ≡ rebase s.history version) × (generation ≡ s.generation + 1)

-- The histories to which two disks may open at rest, after a call. It is that of the disk that is read, or this and the
-- commit in doubt, or that of the copy whose finish is in doubt. A running copy is never open.
abbrev pub MayBeLeft : State → History → ℕ → Type 0
MayBeLeft s h generation =
    ((h ≡ on_disk s) × (generation ≡ s.generation))
    ⊎ (((c : Change) × (s.doubt ≡ Some c) × (h ≡ grown (on_disk s) (c ∷ [])) × (generation ≡ s.generation))
    ⊎ ((version : ℕ) × (s.finish ≡ Some version) × IsOfCopy s version h generation))

-- Crash. It may come while a copy that lacks nothing takes the disk's place: then that copy too
abbrev pub Recovers : State → History → ℕ → Type 0
Recovers s h generation = MayBeLeft s h generation
    ⊎ ((version : ℕ) × IsWhole s version × IsOfCopy s version h generation)

abbrev pub crashed : State → History → ℕ → State
crashed s h generation = record s {
  history = h;
  pins = [];
  base = h.version;
  generation = generation;
  copy = None;
  doubt = None;
  finish = None;
  faults = record
      { a = 0; b = 0 };
  serves = false;
}

abbrev pub CrashGives : State → Reply → State → Type 0
CrashGives s Crashed s' = Recovers s s'.history s'.generation × (s' ≡ crashed s s'.history s'.generation)
CrashGives s _ s' = ⊥

-- Open: nothing is pinned, copied or in doubt, and the base is the disk's
abbrev pub OpenGives : State → Reply → State → Type 0
OpenGives s (Opened version) s' =
    (s.pins ≡ []) × (s.copy ≡ None) × (s.doubt ≡ None) × (s.finish ≡ None) × (s.base ≡ s.history.version)
    × AreNeeded s s'.kept × (version ≡ head s.history)
    × NoneFell s.faults s'.faults × Becomes (record s { kept = s'.kept; serves = true }) s'
OpenGives s _ s' = ⊥

-- calls are served if the machine was opened
abbrev pub Serves : State → State → Type 0
Serves s s' = (s.serves ≡ true) × NoneFell s.faults s'.faults

abbrev pub Gives : State → ℕ → Event → Reply → State → Type 0
Gives s owner (Commit change) reply s' = Serves s s' × CommitGives s change reply s'
Gives s owner Pin reply s' = Serves s s' × PinGives s owner reply s'
Gives s owner (Fetch slot want from limit) reply s' = Serves s s' × FetchGives s owner slot want from limit reply s'
Gives s owner (Unpin slot) reply s' = Serves s s' × UnpinGives s owner slot reply s'
Gives s owner Prune reply s' = Serves s s' × PruneGives s reply s'
Gives s owner (Look id) reply s' = Serves s s' × LookGives s id reply s'
Gives s owner Stats reply s' = Serves s s' × StatsGives s reply s'
Gives s owner Compact reply s' = Serves s s' × CompactGives s reply s'
Gives s owner Crash reply s' = CrashGives s reply s'
Gives s owner Open reply s' = OpenGives s reply s'
