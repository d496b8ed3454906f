-- For callers: transcripts by the calls of a run, and runs of a store in memory that begins empty, whose disks never
-- fail.
use Rattle.std.specs.Prelude.{◌≡◌, ℕ, List, true}
use Rattle.std.specs.List.{AllByRecursion}
use Rattle.io_edge.specs.Lines.{lines_of}
use Rattle.session_acts.specs.Cursors.{Calls}
use Rattle.session_acts.specs.Served as session
use Rattle.session_acts.specs.Truths.{IsTrueBeginning, IsTrueTranscript}
use Rattle.store_core.specs.Stored.{empty}
use Rattle.store_machine.specs.Machine.{IsSure}
use Rattle.store_machine.specs.Runs.{IsRun, IsCalm, calls_of}
use Rattle.store_machine.specs.declared.machine.History.{History}
use Rattle.store_machine.specs.declared.machine.State.{State}
use Rattle.store_machine.specs.declared.machine.Step.{Step}

-- The text is a transcript of the script by these calls, by pages of a size. Each search, cursor and watch in it listed
-- the hits of the history
abbrev pub IsTranscriptBy : ℕ → List ℕ → Calls → History → List ℕ → Type 0
IsTranscriptBy page script calls history text =
    session.IsTranscript page (lines_of script) calls text × IsTrueTranscript history page (lines_of script) calls text

-- as `IsTranscriptBy`, of a prefix
abbrev pub IsTranscriptPrefixBy : ℕ → List ℕ → Calls → History → List ℕ → Type 0
IsTranscriptPrefixBy page script calls history text =
    session.IsTranscriptPrefix page (lines_of script) calls text
    × IsTrueBeginning history page (lines_of script) calls text

-- The calls are all calls of a run without a crash, of a store that begins empty and may have `commits` commits. No
-- disk fails
pub record AreOfRun (commits : ℕ) (calls : Calls) : Type 0 where
  pub steps : List Step
  pub last : State
  pub run : IsRun (empty commits) steps last
  pub calm : IsCalm steps
  pub all : calls_of (λ _. true) steps ≡ calls
  pub sure : AllByRecursion (λ call. IsSure call.1) calls

-- the text is a transcript of the script in such a run
abbrev pub IsTranscript : ℕ → ℕ → List ℕ → List ℕ → Type 0
IsTranscript commits page script text =
    (calls : Calls) × (run : AreOfRun commits calls) × IsTranscriptBy page script calls run.last.history text
