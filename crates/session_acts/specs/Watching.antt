-- For callers: the watches of a session, the other state that it keeps between its requests, and the effects of its
-- commits on the watches.
use Rattle.std.specs.Prelude.{◌≡◌, ◌≢◌, ◌↔◌, ◌+◌, ◌-◌, ◌^◌, Bool, Contains, filter, find, if◌then◌else◌, List, [], ◌∷◌, min, None, not, Option, ℕ}
use Rattle.std.specs.List.{AllZip}
use Rattle.std.specs.List.Sorted.{IsStrictlyIncreasing}
use Rattle.std.specs.Str.{bytes_eq}
use Rattle.smarts_parse.specs.Pattern.{PatternTerm}
use Rattle.store_machine.specs.History.{id_of}
use Rattle.store_machine.specs.Structures.{IsMatched}
use Rattle.store_machine.specs.declared.machine.Change.{Change}
use Rattle.store_machine.specs.declared.machine.Change.TheVariants.{Register, Revise, Withdraw}
use Rattle.store_machine.specs.declared.machine.Event.{Event}
use Rattle.store_machine.specs.declared.machine.Event.TheVariants as events
use Rattle.store_machine.specs.declared.machine.Reply.{Reply}
use Rattle.store_machine.specs.declared.machine.Reply.TheVariants as replies
use Rattle.session_acts.specs.Cursors.{Calls, Cursor}

-- A pattern that is watched under a name: its hits at a version, and the number of times they were searched anew
pub record Watched : Type 0 where
  pub name : List ℕ
  pub pattern : PatternTerm
  pub version : ℕ
  pub hits : List ℕ
  pub rebuilt : ℕ

-- the state that a session keeps between its requests
pub record Standing : Type 0 where
  pub cursors : List Cursor
  pub watches : List Watched

abbrev pub nothing_kept : Standing
nothing_kept = record { cursors = []; watches = [] }

-- the watch of a name, if there is one, and the others
abbrev pub is_of : List ℕ → Watched → Bool
is_of name w = bytes_eq w.name name

abbrev pub watch_of : List ℕ → List Watched → Option Watched
watch_of name watches = find (is_of name) watches

abbrev pub IsUnwatched : List Watched → List ℕ → Type 0
IsUnwatched watches name = watch_of name watches ≡ None

abbrev pub without : List ℕ → List Watched → List Watched
without name watches = filter (λ w. not (is_of name w)) watches

-- a watch before its hits are listed, and one whose hits were searched anew. The number of times is counted up to 2 ^
-- 32 - 1
abbrev pub new_watch : List ℕ → PatternTerm → ℕ → List ℕ → Watched
new_watch name pattern version hits =
    record { name = name; pattern = pattern; version = version; hits = hits; rebuilt = 0 }

abbrev pub rebuilt_watch : ℕ → List ℕ → Watched → Watched
rebuilt_watch version hits w =
    record w { version = version; hits = hits; rebuilt = min (w.rebuilt + 1) (2 ^ 32 - 1) }

-- the watch of a name with these hits, any other as it was
abbrev pub rebuilt_in : List ℕ → ℕ → List ℕ → Watched → Watched
rebuilt_in name version hits w = if is_of name w then rebuilt_watch version hits w else w

-- the change leaves a text whose structure the pattern matches
abbrev pub LeavesHit : PatternTerm → Change → Type 0
LeavesHit pattern (Register id format text) = IsMatched pattern format text
LeavesHit pattern (Revise id format text) = IsMatched pattern format text
LeavesHit pattern (Withdraw id) = ⊥

-- hits over a change: its identifier is a hit exactly if the change leaves one, and each other is as before
pub record IsListOver (pattern : PatternTerm) (change : Change) (old new : List ℕ) : Type 0 where
  pub ascending : IsStrictlyIncreasing new
  pub own : Contains new (id_of change) ↔ LeavesHit pattern change
  pub others : (id : ℕ) → id ≢ id_of change → Contains new id ↔ Contains old id

-- a watch after the commit of a version
pub record IsMoved (version : ℕ) (change : Change) (old new : Watched) : Type 0 where
  pub version_is : new.version ≡ version
  pub list : IsListOver old.pattern change old.hits new.hits

-- a watch over the commit of a version: one at the version before is updated by it, any other is as it was
pub record IsNoted (version : ℕ) (change : Change) (old new : Watched) : Type 0 where
  pub name : new.name ≡ old.name
  pub pattern : new.pattern ≡ old.pattern
  pub rebuilt : new.rebuilt ≡ old.rebuilt
  pub moved : old.version + 1 ≡ version → IsMoved version change old new
  pub other : old.version + 1 ≢ version → new ≡ old

abbrev pub AreNoted : ℕ → Change → List Watched → List Watched → Type 0
AreNoted version change old new = AllZip (IsNoted version change) old new

-- watches after a commit, by its reply
abbrev pub AfterReply : Change → Reply → List Watched → List Watched → Type 0
AfterReply change (replies.Committed version) old new = AreNoted version change old new
AfterReply change _ old new = new ≡ old

-- after a call: only a commit of the session moves them
abbrev pub AfterCall : Event → Reply → List Watched → List Watched → Type 0
AfterCall (events.Commit change) reply old new = AfterReply change reply old new
AfterCall _ reply old new = new ≡ old

abbrev pub AfterCalls : Calls → List Watched → List Watched → Type 0
AfterCalls [] old new = new ≡ old
AfterCalls (c ∷ cs) old new = (between : List Watched) × AfterCall c.0 c.1 old between × AfterCalls cs between new
