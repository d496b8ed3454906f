-- For private clauses alone: a drill as what talks, with the slot that its world stands in. A reopening that finds no
-- memory leaves the slot empty.
use Rattle.std.specs.Prelude.{◌≡◌, ◌≤◌, ◌<◌, ◌+◌, ◌^◌, ℕ, Bool, true, false, List, [], ◌∷◌, length, Option, None, Some, Result, Ok, Err}
use Rattle.std.specs.List.{AllByRecursion}
use Rattle.std.specs.declared.alloc.AllocError.{AllocError}
use Rattle.dialogue.specs.Answers as dialogue
use Rattle.dialogue.specs.Answers.{CutsShort, Replies, TalkModel}
use Rattle.dialogue.specs.Dialogue.{IsAsked}
use Rattle.dialogue.specs.declared.end.Stop.{Stop}
use Rattle.disk_edge.specs.Medium.{Medium, model}
use Rattle.drill_core.specs.Faults.{failed}
use Rattle.drill_core.specs.Worlds.{bounds_of}
use Rattle.io_edge.specs.Lines.{TextLine, TooLong, Whole}
use Rattle.session_acts.specs.Acts.{Lines}
use Rattle.session_acts.specs.Cursors.{Calls, Makes}
use Rattle.session_acts.specs.Pins.{AreHeld, MovePins}
use Rattle.session_acts.specs.Watching.{Standing}
use Rattle.session_run.specs.Responds.{IsFit}
use Rattle.session_run.specs.declared.respond.Responder.{Responder}
use Rattle.session_run.specs.declared.settings.Settings.{Settings}
use Rattle.store_core.specs.Calls.{NotRaised}
use Rattle.store_core.specs.Stored.{HoldsPin}
use Rattle.store_machine.specs.declared.machine.State.{State}
use Rattle.store_disk.specs.InMemory.{StandsInMemory}
use Rattle.store_disk.specs.OnDisk.{StoreTerm}
use Rattle.store_disk.specs.Stored.{Stretches}
use Rattle.drill_run.specs.Acts.{IsOwnAnswer, all_of}
use Rattle.drill_run.specs.Causes.{Tally, tally_after}
use Rattle.drill_run.specs.Lines.{DrillLine}
use Rattle.drill_run.specs.Runs.{Runs, RunsTo}
use Rattle.drill_run.specs.Talking.{Kept, drills}
use Rattle.drill_run.specs.Views.{kept_in}
use Rattle.drill_run.specs.declared.line.TheConstants.{SESSIONS}
use Rattle.drill_run.specs.declared.sessions.Sessions.{Sessions}

abbrev pub WorldTerm : Type 0
WorldTerm = StoreTerm Medium

-- the responder fits these settings
abbrev pub IsSessionOf : Settings → Responder → Type 0
IsSessionOf settings r = IsFit r.cursors × (r.cursors.settings ≡ settings)

-- Without a stop, the two disks have no more faults to count than the part has failures set. The events with a disk
-- fault are among those that both counted
abbrev pub IsTallied : Tally → WorldTerm → Type 0
IsTallied t world = t.stops ≡ 0
    → (n m : ℕ) × ((bounds_of world).0 ≡ Some n) × ((bounds_of world).1 ≡ Some m) × (n + m ≤ t.fails)
    × (t.faults ≤ failed world)

-- The sessions can be answered: the pins of all their cursors are held by the world, in slots of their own. At most
-- this many failures are set
pub record IsReady (sessions : Sessions) (world : WorldTerm) (tally : Tally) (n : ℕ) : Type 0 where
  pub state : State
  pub stands : StandsInMemory world state
  pub number : length sessions.responders.items ≡ SESSIONS
  pub fit : AllByRecursion (IsSessionOf sessions.settings) sessions.responders.items
  pub held : AreHeld (HoldsPin world.memory) (all_of (kept_in sessions.responders.items))
  pub tallied : IsTallied tally world
  pub few : tally.fails ≤ n

-- there is a world, by which they can be
abbrev pub AreReady : Sessions → Option WorldTerm → Tally → ℕ → Type 0
AreReady sessions (Some world) tally n = IsReady sessions world tally n
AreReady sessions None tally n = ⊥

abbrev pub kept_of : Sessions → Tally → Kept
kept_of sessions tally =
    record { page = sessions.settings.page; all = kept_in sessions.responders.items; tally = tally }

-- the line that was taken, if one was, is too long or not
abbrev pub is_long : TextLine → Bool
is_long (Whole line) = false
is_long (TooLong size) = true

abbrev pub IsTaken : Bool → List TextLine → Type 0
IsTaken long [] = Unit {0}
IsTaken long (line ∷ lines) = is_long line ≡ long

-- the drill keeps this, and took this line of the request under way, or none
pub record IsDrilling (sessions : Sessions) (slot : Option WorldTerm) (kept : Kept) (lines : List TextLine) (n : ℕ)
    : Type 0 where
  pub kept_is : kept ≡ kept_of sessions kept.tally
  pub ready : AreReady sessions slot kept.tally n
  pub taken : IsTaken sessions.too_long lines

-- it keeps this, and the pins of its cursors are held; or the world is gone, and no cursor is open
abbrev pub CanClose : Sessions → Option WorldTerm → Kept → Type 0
CanClose sessions (Some world) kept =
    (kept.all ≡ kept_in sessions.responders.items) × AreHeld (HoldsPin world.memory) (all_of kept.all)
CanClose sessions None kept = all_of kept.all ≡ []

-- from one slot to a later one these were the events; or the world is gone, behind these
abbrev pub Made : Option WorldTerm → Option WorldTerm → Calls → Type 0
Made (Some old) (Some new) calls = RunsTo old calls (StandsInMemory new)
Made (Some old) None calls = Runs old calls
Made None (Some new) calls = ⊥
Made None None calls = calls ≡ []

-- a world is never worn
abbrev pub talks : TalkModel Sessions (Option WorldTerm)
talks = record {
  manner = drills;
  IsReady = IsDrilling;
  CanClose = CanClose;
  Made = Made;
  IsWorn = λ slot. ⊥;
  said = λ sessions. sessions.out.items;
}

-- the line of the drill is asked, and the drill can answer it
abbrev pub CanAnswer : Sessions → Option WorldTerm → List ℕ → Type 0
CanAnswer sessions slot text = (kept : Kept) × (lines : List TextLine) × (n : ℕ)
    × IsDrilling sessions slot kept lines n × IsAsked drills lines text

-- the line that is asked was answered
abbrev pub AnswersAsked : Result (Unit {0}) Stop → Sessions → Sessions → Option WorldTerm → Option WorldTerm → List ℕ
    → Type 0
AnswersAsked result old new slot slot' text = (kept : Kept) (lines : List TextLine) (n : ℕ)
    → IsDrilling old slot kept lines n → IsAsked drills lines text → n + 1 < 2 ^ 64
    → dialogue.Answered talks result new slot slot' kept lines n

-- a line was answered, or memory ran out in its answer
abbrev pub AnswersLine : Result (Unit {0}) AllocError → Sessions → Option WorldTerm → Option WorldTerm → Kept
    → TextLine → ℕ → Type 0
AnswersLine (Ok _) new slot slot' kept line n = Replies talks new slot slot' kept (line ∷ []) n
AnswersLine (Err fault) new slot slot' kept line n = CutsShort talks new slot slot' kept (line ∷ [])

abbrev pub Answers : Result (Unit {0}) AllocError → Sessions → Sessions → Option WorldTerm → Option WorldTerm → TextLine
    → Type 0
Answers result old new slot slot' line = (tally : Tally) (n : ℕ) → AreReady old slot tally n → n + 1 < 2 ^ 64
    → AnswersLine result new slot slot' (kept_of old tally) line n

-- a line set failures: the states of the world and its pins stay
pub record Sets (line : DrillLine) (old new : WorldTerm) : Type 0 where
  pub stands : (s : State) → StandsInMemory old s → StandsInMemory new s
  pub memory : new.memory ≡ old.memory
  pub tallied : (t : Tally) → IsTallied t old → IsTallied (tally_after t (Some line) []) new

-- from one world to a later one these calls were made, and they alone moved pins
pub record Uses (old new : WorldTerm) (calls : Calls) : Type 0 where
  pub makes : Makes StandsInMemory (λ _ _. true) (Stretches model) old new calls
  pub pins : MovePins calls (HoldsPin old.memory) (HoldsPin new.memory)
  pub bounds : NotRaised (bounds_of old) (bounds_of new)

-- a session's line was answered
pub record AnswersOwn (size : ℕ) (line : List ℕ) (old new : WorldTerm) (standing standing' : Standing) : Type 0 where
  pub calls : Calls
  pub lines : Lines
  pub is : IsOwnAnswer size line standing calls lines standing'
  pub uses : Uses old new calls
