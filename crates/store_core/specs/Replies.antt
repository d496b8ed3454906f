-- Answers of calls as events and replies of the machine: no event for `Worn`.
use Rattle.std.specs.Prelude.{◌≡◌, ◌+◌, ◌≤◌, Bool, Err, List, [], ◌∷◌, None, Ok, Option, Result, Some, ℕ}
use Rattle.std.specs.Arc.{arc_value}
use Rattle.snap_registry.specs.declared.Pin.{Pin}
use Rattle.store_machine.specs.History.{unless_live, unless_none}
use Rattle.store_machine.specs.declared.machine.Change.{Change}
use Rattle.store_machine.specs.declared.machine.Change.TheVariants as change
use Rattle.store_machine.specs.declared.machine.Event.{Event}
use Rattle.store_machine.specs.declared.machine.Event.TheVariants as event
use Rattle.store_machine.specs.declared.machine.Reply.{Reply}
use Rattle.store_machine.specs.declared.machine.Reply.TheVariants as reply
use Rattle.store_machine.specs.declared.machine.Status.{Status}
use Rattle.store_machine.specs.declared.machine.Status.TheVariants as status
use Rattle.store_core.specs.Records.{IsRecord, Shared, founds}
use Rattle.store_core.specs.declared.words.CallFault.{CallFault}
use Rattle.store_core.specs.declared.words.CallFault.TheVariants as call
use Rattle.store_core.specs.declared.words.Change.{Change as Asked}
use Rattle.store_core.specs.declared.words.Change.TheVariants as asked
use Rattle.store_core.specs.declared.words.CommitFault.{CommitFault}
use Rattle.store_core.specs.declared.words.CommitFault.TheVariants as commit
use Rattle.store_core.specs.declared.words.Compact.{Compact}
use Rattle.store_core.specs.declared.words.Compact.TheVariants as compact
use Rattle.store_core.specs.declared.words.CompactFault.{CompactFault}
use Rattle.store_core.specs.declared.words.CompactFault.TheVariants as fault
use Rattle.store_core.specs.declared.words.Look.{Look}
use Rattle.store_core.specs.declared.words.Look.TheVariants as look
use Rattle.store_core.specs.declared.words.Stats.{Stats}

-- commit
abbrev pub change_of : Asked → Change
change_of (asked.Register r) = change.Register (arc_value r).id (arc_value r).format (arc_value r).text
change_of (asked.Revise r) = change.Revise (arc_value r).id (arc_value r).format (arc_value r).text
change_of (asked.Withdraw id) = change.Withdraw id

abbrev pub commit_calls : Asked → Result ℕ CommitFault → List (Event × Reply)
commit_calls c (Ok version) = (event.Commit (change_of c), reply.Committed version) ∷ []
commit_calls c (Err commit.Known) = (event.Commit (change_of c), reply.Known) ∷ []
commit_calls c (Err commit.Absent) = (event.Commit (change_of c), reply.Absent) ∷ []
commit_calls c (Err commit.Withdrawn) = (event.Commit (change_of c), reply.Withdrawn) ∷ []
commit_calls c (Err commit.Full) = (event.Commit (change_of c), reply.Full) ∷ []
commit_calls c (Err (commit.DiskFault doubt)) = (event.Commit (change_of c), reply.DiskFault doubt) ∷ []
commit_calls c (Err commit.Worn) = []
commit_calls c (Err commit.NoMemory) = (event.Commit (change_of c), reply.NoMemory) ∷ []

-- its record is sound
abbrev pub IsSoundChange : Asked → Type 0
IsSoundChange (asked.Register r) = IsRecord (arc_value r)
IsSoundChange (asked.Revise r) = IsRecord (arc_value r)
IsSoundChange (asked.Withdraw id) = Unit {0}

-- the record that it leaves
abbrev pub left_by : Asked → Option Shared
left_by (asked.Register r) = Some r
left_by (asked.Revise r) = Some r
left_by (asked.Withdraw id) = None

-- why it is refused, by the status of its identifier
abbrev pub refusal_by : Option Status → Asked → Option Reply
refusal_by now (asked.Register r) = unless_none now
refusal_by now (asked.Revise r) = unless_live now
refusal_by now (asked.Withdraw id) = unless_live now

abbrev pub IsRefusal : CommitFault → Option Reply → Type 0
IsRefusal commit.Known refusal = refusal ≡ Some reply.Known
IsRefusal commit.Absent refusal = refusal ≡ Some reply.Absent
IsRefusal commit.Withdrawn refusal = refusal ≡ Some reply.Withdrawn
IsRefusal _ refusal = ⊥

-- live and withdrawn identifiers before it and after it
abbrev pub Counts : Asked → ℕ → ℕ → ℕ → ℕ → Type 0
Counts (asked.Register r) live withdrawn live' withdrawn' = (live' ≡ live + 1) × (withdrawn' ≡ withdrawn)
Counts (asked.Revise r) live withdrawn live' withdrawn' = (live' ≡ live) × (withdrawn' ≡ withdrawn)
Counts (asked.Withdraw id) live withdrawn live' withdrawn' = (live' + 1 ≡ live) × (withdrawn' ≡ withdrawn + 1)

abbrev pub MayCount : Asked → ℕ → Type 0
MayCount (asked.Register r) live = Unit {0}
MayCount (asked.Revise r) live = Unit {0}
MayCount (asked.Withdraw id) live = 1 ≤ live

-- compact
abbrev pub compact_calls : Result Compact CompactFault → List (Event × Reply)
compact_calls (Ok (compact.More left)) = (event.Compact, reply.More left) ∷ []
compact_calls (Ok (compact.Done generation)) = (event.Compact, reply.Done generation) ∷ []
compact_calls (Err fault.Last) = (event.Compact, reply.Last) ∷ []
compact_calls (Err (fault.DiskFault doubt)) = (event.Compact, reply.DiskFault doubt) ∷ []
compact_calls (Err fault.Worn) = []
compact_calls (Err fault.NoMemory) = (event.Compact, reply.NoMemory) ∷ []

-- of every other call, by its reply if it has an answer
abbrev pub calls : {X : Type 0} → Event → (X → Reply) → Result X CallFault → List (Event × Reply)
calls e of (Ok x) = (e, of x) ∷ []
calls e of (Err call.Worn) = []
calls e of (Err call.NoMemory) = (e, reply.NoMemory) ∷ []

abbrev pub pin_reply : Option Pin → Reply
pin_reply None = reply.NoPin
pin_reply (Some p) = reply.Pinned p.slot p.version

abbrev pub pin_calls : Result (Option Pin) CallFault → List (Event × Reply)
pin_calls result = calls event.Pin pin_reply result

abbrev pub fetch_calls : ℕ → List Bool → ℕ → ℕ → List Shared → Result Bool CallFault → List (Event × Reply)
fetch_calls slot want from limit records result = calls (event.Fetch slot want from limit)
    (λ last. reply.Page (founds records) last) result

abbrev pub unpin_calls : ℕ → Result (Unit {0}) CallFault → List (Event × Reply)
unpin_calls slot result = calls (event.Unpin slot) (λ _. reply.Unpinned) result

abbrev pub prune_calls : Result ℕ CallFault → List (Event × Reply)
prune_calls result = calls event.Prune (λ dropped. reply.Pruned dropped) result

-- look
abbrev pub looked : Look → Option Status
looked look.Absent = None
looked (look.Live version entry) = Some (status.Live version (arc_value entry).format (arc_value entry).text)
looked (look.Withdrawn version) = Some (status.Withdrawn version)

abbrev pub look_calls : ℕ → Result Look CallFault → List (Event × Reply)
look_calls id result = calls (event.Look id) (λ l. reply.Looked (looked l)) result

-- the record that is looked at has the identifier
abbrev pub IsLookOf : ℕ → Look → Type 0
IsLookOf id look.Absent = Unit {0}
IsLookOf id (look.Live version entry) = (arc_value entry).id ≡ id
IsLookOf id (look.Withdrawn version) = Unit {0}

-- stats
abbrev pub stats_calls : Result Stats CallFault → List (Event × Reply)
stats_calls result = calls event.Stats (λ n. reply.Counted n.version n.live n.withdrawn n.kept n.pins) result
