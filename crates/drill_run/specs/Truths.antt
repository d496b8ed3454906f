-- For callers: the laws of a drill. A reopening keeps the acknowledged commits. Between two reopenings each session's
-- searches, cursors, lookups and watches are true by the history.
use Rattle.std.specs.Prelude.{◌≡◌, ◌⊎◌, ℕ, List, [], ◌∷◌, ◌++◌, Some}
use Rattle.dialogue.specs.Dialogue.{AreExchanged, calls_in}
use Rattle.io_edge.specs.Lines.{Whole}
use Rattle.session_acts.specs.Cursors.{Calls}
use Rattle.session_acts.specs.Talking as session
use Rattle.session_acts.specs.Truths.{AreTrue}
use Rattle.shell_lang.specs.Command.{TakesLines}
use Rattle.shell_lang.specs.Reply.{text_of}
use Rattle.store_machine.specs.History.{grown, rebase}
use Rattle.store_machine.specs.Kept.{IsPast}
use Rattle.store_machine.specs.Laws.{IsSound}
use Rattle.store_machine.specs.Runs.{IsCalm, IsRun}
use Rattle.store_machine.specs.Told.{acknowledged}
use Rattle.store_machine.specs.declared.machine.Change.{Change}
use Rattle.store_machine.specs.declared.machine.Event.TheVariants.{Crash, Open}
use Rattle.store_machine.specs.declared.machine.State.{State}
use Rattle.store_machine.specs.declared.machine.Step.{Step}
use Rattle.drill_run.specs.Lines.{Reopen, Session}
use Rattle.drill_run.specs.Numbers.{numbered}
use Rattle.drill_run.specs.Runs.{events_of}
use Rattle.drill_run.specs.Talking.{Exchange, Kept, begun, drills}

-- a line of this session that is answered as in a session
abbrev pub IsOwn : ℕ → Exchange → Type 0
IsOwn number x = (line : List ℕ) × (x.reply.read ≡ Some (Session number line)) × ¬ TakesLines line

-- as `IsOwn`, with the line and its reply as an exchange of that session alone
pub record IsOwnAs (number : ℕ) (x : Exchange) (own : session.Exchange) : Type 0 where
  pub line : List ℕ
  pub read : x.reply.read ≡ Some (Session number line)
  pub alone : ¬ TakesLines line
  pub request : own.request ≡ Whole line ∷ []
  pub said : x.reply.text ≡ numbered number (text_of own.reply)

-- the session's own dialogue in a drill: its lines with their replies, in order
abbrev pub AreOwn : ℕ → List Exchange → List session.Exchange → Type 0
AreOwn number [] own = own ≡ []
AreOwn number (x ∷ xs) own =
    ((first : session.Exchange) × (rest : List session.Exchange) × (own ≡ first ∷ rest) × IsOwnAs number x first
    × AreOwn number xs rest)
    ⊎ (¬ IsOwn number x × AreOwn number xs own)

abbrev pub IsReopen : Exchange → Type 0
IsReopen x = (image : ℕ) × (x.reply.read ≡ Some (Reopen image))

-- no reopening is among them
abbrev pub IsPart : List Exchange → Type 0
IsPart [] = Unit {0}
IsPart (x ∷ xs) = ¬ IsReopen x × IsPart xs

-- nothing, or a drill up to a reopening
abbrev pub BeginsAnew : List Exchange → Type 0
BeginsAnew before = (before ≡ [])
    ⊎ ((front : List Exchange) × (last : Exchange) × (before ≡ front ++ last ∷ []) × IsReopen last)

-- The first steps of a run from a state make the calls of a drill so far. The session's own dialogue in its last part
-- is true by the history then
pub record IsTold (s : State) (steps : List Step) (size number : ℕ) (before part : List Exchange) : Type 0 where
  pub first : List Step
  pub left : List Step
  pub there : State
  pub cut : steps ≡ first ++ left
  pub made : events_of first ≡ calls_in drills (before ++ part)
  pub run : IsRun s first there
  pub own : List session.Exchange
  pub are : AreOwn number part own
  pub are_true : AreTrue there.history size own

-- In each part of a drill each session's searches, cursors, lookups and watches that came to their end are true by the
-- history. A part goes from the beginning or a reopening on, however far
abbrev pub AreAllTold : State → List Step → ℕ → List Exchange → Type 0
AreAllTold s steps size exchanges =
    (number : ℕ) (before part after : List Exchange) → exchanges ≡ before ++ (part ++ after) → BeginsAnew before
    → IsPart part → IsTold s steps size number before part

-- a drill's lines were answered by the first events of a run
abbrev pub DrillsAreTrue : Type 0
DrillsAreTrue =
    (size : ℕ) (exchanges : List Exchange) (kept : Kept) (s t : State) (steps : List Step) (more : Calls)
    → AreExchanged drills (begun size) exchanges kept → IsSound s → IsRun s steps t
    → events_of steps ≡ calls_in drills exchanges ++ more → AreAllTold s steps size exchanges

-- A reopening leaves the history with the commits acknowledged since the last one, in order, and at most one commit
-- more, the one in doubt. Its base is moved to a version that was there. So the base has the commits up to that
-- version, and each snapshot from it on is the acknowledged one
abbrev pub ReopeningsKeep : Type 0
ReopeningsKeep =
    (s t u : State) (steps : List Step) (crash opening : Step)
    → IsSound s → IsRun s steps t → IsCalm steps → IsRun t (crash ∷ opening ∷ []) u → crash.event ≡ Crash
    → opening.event ≡ Open
    → (v : ℕ) × IsPast t v
    × ((u.history ≡ rebase (grown s.history (acknowledged steps)) v)
    ⊎ ((c : Change) × (t.doubt ≡ Some c) × (u.history ≡ rebase (grown s.history (acknowledged steps ++ c ∷ [])) v)))
