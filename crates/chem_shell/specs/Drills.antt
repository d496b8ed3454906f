-- For callers: the end after `drill`.
use Rattle.std.specs.Prelude.{◌≡◌, ℕ, Option, List, IfSome}
use Rattle.dialogue.specs.Dialogue.{IsDialogue, IsPrefixOf}
use Rattle.dialogue.specs.Talked.{IsAllOfTaken, IsTranscript, IsTranscriptPrefix, TakesAll, TakesAtMost, Writes, WritesForTaken}
use Rattle.drill_run.specs.Runs.{events_of}
use Rattle.drill_run.specs.Talking.{Kept, begun, drills}
use Rattle.drill_run.specs.Truths.{AreAllTold}
use Rattle.io_edge.specs.Lines.{TextLine, lines_of}
use Rattle.serve_ends.specs.declared.end.End.{End}
use Rattle.serve_ends.specs.declared.status.TheConstants.{DONE}
use Rattle.session_acts.specs.Cursors.{Calls}
use Rattle.store_core.specs.Stored.{empty}
use Rattle.store_machine.specs.Runs.{IsRun}
use Rattle.store_machine.specs.declared.machine.State.{State}
use Rattle.store_machine.specs.declared.machine.Step.{Step}
use Rattle.chem_shell.specs.Status.{IsEndStatus, IsInputStatus}
use Rattle.chem_shell.specs.declared.request.Plan.{Plan}
use Rattle.chem_shell.specs.declared.settings.TheConstants.{INPUT_LIMIT}

-- The calls are all events of a run, with their replies, crashes and openings too. It begins with an empty store, which
-- may have `commits` commits
pub record AreOfDrill (commits : ℕ) (calls : Calls) : Type 0 where
  pub steps : List Step
  pub last : State
  pub run : IsRun (empty commits) steps last
  pub all : events_of steps ≡ calls

-- The text is the replies to all lines of the script, if these calls are made for them; pages have a size. Each disk
-- fault among the calls is caused by lines `stop` or `fail` before it
abbrev pub IsDrillBy : ℕ → List ℕ → Calls → List ℕ → Type 0
IsDrillBy page script calls text = IsTranscript drills (begun page) (lines_of script) calls text

-- a beginning of it
abbrev pub IsDrillPrefixBy : ℕ → List ℕ → Calls → List ℕ → Type 0
IsDrillPrefixBy page script calls text = IsTranscriptPrefix drills (begun page) (lines_of script) calls text

-- Such a text by the calls of a run from a state. In each part of the drill, each session's searches, cursors, lookups
-- and watches that ended reported exactly the history
abbrev pub IsTrueDrill : State → List Step → ℕ → List ℕ → Calls → List ℕ → Type 0
IsTrueDrill first steps page script calls text =
    (drill : IsDrillBy page script calls text) × AreAllTold first steps page drill.2.exchanges

-- As `IsTrueDrill`, of a drill that stopped early: the text is a beginning of the answers of a dialogue over the first
-- lines
pub record IsTrueDrillPrefix (first : State) (steps : List Step) (page : ℕ) (script : List ℕ) (calls : Calls)
    (text : List ℕ) : Type 0 where
  pub drill : IsDrillPrefixBy page script calls text
  pub left : List TextLine
  pub own : Calls
  pub replies : List ℕ
  pub kept : Kept
  pub dialogue : IsDialogue drills (begun page) (lines_of script) left own replies kept
  pub said : IsPrefixOf text replies
  pub made : IsPrefixOf own calls
  pub told : AreAllTold first steps page dialogue.exchanges

-- The end after `drill`: the output is a prefix of a drill of the source's bytes, and true by the run. If the status is
-- 0 it is all of one, and the source was read to its end. If the source failed or its bytes are too many, exactly the
-- whole lines of its taken bytes were answered. No more than the limit is ever taken
pub record ServesDrill {S K : Type 0} (plan : Plan) (left : S → Option (List ℕ)) (written : K → Option (List ℕ))
    (old new : End S K) : Type 0 where
  pub status : IsEndStatus new.status
  pub calls : Calls
  pub run : AreOfDrill plan.commits calls
  pub prefix : IfSome (left old.source) (λ script. Writes (written old.sink) (written new.sink)
      (IsTrueDrillPrefix (empty plan.commits) run.steps plan.page script calls))
  pub all : new.status ≡ DONE → IfSome (left old.source) (λ script. Writes (written old.sink) (written new.sink)
      (IsTrueDrill (empty plan.commits) run.steps plan.page script calls))
  pub taken : IsInputStatus new.status → WritesForTaken (left old.source) (left new.source)
      (written old.sink) (written new.sink) (IsAllOfTaken drills (begun plan.page) calls)
  pub done : new.status ≡ DONE → TakesAll (left old.source) (left new.source)
  pub within : TakesAtMost (left old.source) (left new.source) INPUT_LIMIT
