-- For callers: a drill's manner of talking, in which each line is a request.
use Rattle.std.specs.Prelude.{◌≡◌, ◌⊎◌, ℕ, List, [], ◌∷◌, replicate, Option, Some}
use Rattle.dialogue.specs.Dialogue as dialogue
use Rattle.dialogue.specs.Manner.{Manner}
use Rattle.io_edge.specs.Lines.{TextLine}
use Rattle.session_acts.specs.Cursors.{Calls, unpins}
use Rattle.session_acts.specs.Watching.{nothing_kept}
use Rattle.store_machine.specs.declared.machine.Event.{Event}
use Rattle.store_machine.specs.declared.machine.Reply.{Reply}
use Rattle.drill_run.specs.Acts.{AllKept, Does, all_of, forgotten}
use Rattle.drill_run.specs.Causes.{MayFail, Tally, faults_in, nothing_set, tally_after}
use Rattle.drill_run.specs.Lines.{DrillLine, Reads, Reopen}
use Rattle.drill_run.specs.declared.line.TheConstants.{SESSIONS}

-- the most records of a page, which stays, the states of the sessions, and the counts of the part so far
pub record Kept : Type 0 where
  pub page : ℕ
  pub all : AllKept
  pub tally : Tally

-- no session has a cursor or a watch
abbrev pub all_empty : AllKept
all_empty = replicate SESSIONS nothing_kept

-- at the beginning
abbrev pub begun : ℕ → Kept
begun page = record { page = page; all = all_empty; tally = nothing_set }

-- the reading of a line, and the text of its answer
pub record Said : Type 0 where
  pub read : Option DrillLine
  pub text : List ℕ

-- A line was answered by these events. The disk faults among them are allowed by the lines of the part before it
pub record IsAnswer (kept : Kept) (line : TextLine) (calls : Calls) (said : Said) (kept' : Kept) : Type 0 where
  pub reads : Reads line said.read
  pub does : Does kept.page line said.read kept.all calls said.text kept'.all
  pub caused : MayFail kept.tally (faults_in calls)
  pub page_is : kept'.page ≡ kept.page
  pub tally_is : kept'.tally ≡ tally_after kept.tally said.read calls

-- memory ran out in a reopening, which then had no event, and nothing is kept
abbrev pub IsLost : Kept → TextLine → Calls → Kept → Type 0
IsLost kept line calls kept' =
    (image : ℕ) × Reads line (Some (Reopen image)) × (calls ≡ []) × (kept'.all ≡ forgotten kept.all)

-- A call is an event of the world, with its reply. Where memory runs out, all events of an answer were made, but those
-- of a reopening. At the end the pins of all open cursors are given back
abbrev pub drills : Manner
drills = record {
  Kept = Kept;
  Call = Event × Reply;
  Reply = Said;
  text_of = λ said. said.text;
  IsWhole = λ lines. (line : TextLine) × (lines ≡ line ∷ []);
  Answers = λ kept lines calls said kept'.
      (line : TextLine) × (lines ≡ line ∷ []) × IsAnswer kept line calls said kept';
  Cuts = λ kept lines calls kept'. (line : TextLine) × (lines ≡ line ∷ [])
      × (((said : Said) × IsAnswer kept line calls said kept') ⊎ IsLost kept line calls kept');
  closing = λ kept. unpins (all_of kept.all);
}

-- a line, the events that answered it, and its answer
abbrev pub Exchange : Type 0
Exchange = dialogue.Exchange (Event × Reply) Said
