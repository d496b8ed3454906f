-- For callers: the events of a drill's line, and the text of its answer. Sessions are counted from 1; each has cursors
-- and watches of its own.
use Rattle.std.specs.Prelude.{◌≡◌, ◌⊎◌, ◌+◌, ℕ, List, [], ◌∷◌, ◌++◌, length, map, Option, None, Some, codes}
use Rattle.std.specs.Fmt.{decimal}
use Rattle.io_edge.specs.Lines.{TextLine, Whole, TooLong}
use Rattle.session_acts.specs.Acts.{Lines, RequestAnswer}
use Rattle.session_acts.specs.Cursors.{Calls, Cursor}
use Rattle.session_acts.specs.Watching.{Standing, nothing_kept}
use Rattle.shell_lang.specs.Command.{TakesLines}
use Rattle.shell_lang.specs.Reply as reply
use Rattle.shell_lang.specs.Reply.{reply_line, text_of}
use Rattle.shell_lang.specs.declared.command.LineRefusal.TheVariants as refused
use Rattle.shell_lang.specs.declared.reply.Refusal.TheVariants as refusals
use Rattle.store_machine.specs.declared.machine.Event.TheVariants.{Crash, Open}
use Rattle.store_machine.specs.declared.machine.Reply.TheVariants.{Crashed, Opened}
use Rattle.drill_run.specs.Lines.{DrillLine, Empty, Session, Stop, Fail, Reopen}
use Rattle.drill_run.specs.Numbers.{numbered}

-- the states of the sessions between their lines, for each session its own
abbrev pub AllKept : Type 0
AllKept = List Standing

-- the cursors of all of them
abbrev pub all_of : AllKept → List Cursor
all_of [] = []
all_of (standing ∷ all) = standing.cursors ++ all_of all

abbrev pub set_text : List ℕ
set_text = codes "set" ++ 10 ∷ []

abbrev pub reopened_text : ℕ → List ℕ
reopened_text version = codes "reopened " ++ (decimal version ++ 10 ∷ [])

-- the refusal of a line that is not a drill's
abbrev pub refused_text : TextLine → List ℕ
refused_text (Whole text) = codes "refused drill" ++ 10 ∷ []
refused_text (TooLong size) = reply_line (reply.Refused refusals.Long)

-- no call is made, and `said` is the answer
abbrev pub Says : List ℕ → AllKept → Calls → List ℕ → AllKept → Type 0
Says said all calls text all' = (calls ≡ []) × (text ≡ said) × (all' ≡ all)

-- the reply to a script line that would take lines after it
abbrev pub lines_refused : Lines
lines_refused = reply.Refused (refusals.Line refused.Syntax) ∷ []

-- A script line is answered as in a session. A line that would take lines after it, those of a molfile or of records,
-- is refused, and takes no lines
abbrev pub IsOwnAnswer : ℕ → List ℕ → Standing → Calls → Lines → Standing → Type 0
IsOwnAnswer size line standing calls lines standing' =
    (TakesLines line × (calls ≡ []) × (lines ≡ lines_refused)
    × (standing' ≡ standing))
    ⊎ (¬ TakesLines line
    × RequestAnswer size standing (record { line = Whole line; more = [] }) calls lines standing')

-- a session's line is answered by the state of that session, each line of the reply with the number of the session
pub record IsSessionAnswer (size number : ℕ) (line : List ℕ) (all : AllKept) (calls : Calls) (text : List ℕ)
    (all' : AllKept) : Type 0 where
  pub before : AllKept
  pub standing : Standing
  pub standing' : Standing
  pub after : AllKept
  pub lines : Lines
  pub place : all ≡ before ++ standing ∷ after
  pub number_is : number ≡ length before + 1
  pub answer : IsOwnAnswer size line standing calls lines standing'
  pub said : text ≡ numbered number (text_of lines)
  pub left : all' ≡ before ++ standing' ∷ after

-- no cursor and no watch is left
abbrev pub forgotten : AllKept → AllKept
forgotten all = map (λ _. nothing_kept) all

-- a crash and an opening: the number of commits is answered, and nothing is kept
abbrev pub IsReopening : AllKept → Calls → List ℕ → AllKept → Type 0
IsReopening all calls text all' =
    (version : ℕ) × (calls ≡ (Crash, Crashed) ∷ (Open, Opened version) ∷ []) × (text ≡ reopened_text version)
    × (all' ≡ forgotten all)

-- the events of a line, by its reading, and its answer; a page has at most `size` records
abbrev pub Does : ℕ → TextLine → Option DrillLine → AllKept → Calls → List ℕ → AllKept → Type 0
Does size line (Some Empty) all calls text all' = Says [] all calls text all'
Does size line (Some (Session number own)) all calls text all' =
    IsSessionAnswer size number own all calls text all'
Does size line (Some (Stop disk calls_left)) all calls text all' = Says set_text all calls text all'
Does size line (Some (Fail disk call)) all calls text all' = Says set_text all calls text all'
Does size line (Some (Reopen image)) all calls text all' = IsReopening all calls text all'
Does size line None all calls text all' = Says (refused_text line) all calls text all'
