-- For callers: the ends after they are served. Functions give the bytes that are left in a source and written to a
-- sink.
use Rattle.std.specs.Prelude.{◌≡◌, ℕ, Option, List, IfSome}
use Rattle.io_edge.specs.Faults.{Rose}
use Rattle.session_acts.specs.Cursors.{Calls}
use Rattle.session_acts.specs.Served.{IsAllOfTaken, TakesAll, TakesAtMost, TakesExactly, Writes, WritesForTaken}
use Rattle.store_machine.specs.declared.machine.History.{History}
use Rattle.chem_shell.specs.declared.request.Plan.{Plan}
use Rattle.serve_ends.specs.declared.end.End.{End}
use Rattle.chem_shell.specs.declared.settings.TheConstants.{INPUT_LIMIT}
use Rattle.serve_ends.specs.declared.status.TheConstants.{DONE, INPUT_TOO_LONG, NO_MEMORY, SINK_FAULT, SOURCE_FAULT}
use Rattle.chem_shell.specs.Runs.{AreOfRun, IsTranscriptBy, IsTranscriptPrefixBy}
use Rattle.chem_shell.specs.Status.{IsEndStatus, IsInputStatus, IsSinkStatus}
use Rattle.chem_shell.specs.Summed.{IsSummary, IsSummaryPrefix, WritesNothing}

-- the end, with this status
abbrev pub with_status : {S K : Type 0} → ℕ → End S K → End S K
with_status status end = record end { status = status }

-- An end after a session, by its calls and the history of their run. The output is a prefix of a transcript of the
-- source's bytes, by pages of a size. If the status is 0 it is all of one, and the source was read to its end. If the
-- source failed or its bytes are too many, exactly the whole requests of its taken bytes were answered. No more than
-- the limit is ever taken
pub record ServesScript {S K : Type 0} (left : S → Option (List ℕ)) (written : K → Option (List ℕ)) (page : ℕ)
    (calls : Calls) (history : History) (old new : End S K) : Type 0 where
  pub status : IsEndStatus new.status
  pub prefix : IfSome (left old.source) (λ script. Writes (written old.sink) (written new.sink)
      (IsTranscriptPrefixBy page script calls history))
  pub all : new.status ≡ DONE → IfSome (left old.source) (λ script. Writes (written old.sink) (written new.sink)
      (IsTranscriptBy page script calls history))
  pub taken : IsInputStatus new.status → WritesForTaken (left old.source) (left new.source)
      (written old.sink) (written new.sink) (IsAllOfTaken page calls)
  pub done : new.status ≡ DONE → TakesAll (left old.source) (left new.source)
  pub within : TakesAtMost (left old.source) (left new.source) INPUT_LIMIT

-- the end after `mem`
pub record ServesMem {S K : Type 0} (plan : Plan) (left : S → Option (List ℕ)) (written : K → Option (List ℕ))
    (old new : End S K) : Type 0 where
  pub calls : Calls
  pub run : AreOfRun plan.commits calls
  pub script : ServesScript left written plan.page calls run.last.history old new

-- the end after `bulk`: nothing is taken, and the summary was put, a prefix of it, or nothing
pub record ServesBulk {S K : Type 0} (plan : Plan) (written : K → Option (List ℕ)) (old new : End S K) : Type 0 where
  pub status : IsSinkStatus new.status
  pub source : new.source ≡ old.source
  pub all : new.status ≡ DONE → Writes (written old.sink) (written new.sink) (IsSummary plan)
  pub prefix : new.status ≡ SINK_FAULT → Writes (written old.sink) (written new.sink) (IsSummaryPrefix plan)
  pub nothing : new.status ≡ NO_MEMORY → WritesNothing (written old.sink) (written new.sink)

-- The causes of an end's statuses: its source or its sink counted a fault, or an input of the limit's length was taken
pub record HasEndCauses {S K : Type 0} (left : S → Option (List ℕ)) (source_faults : S → ℕ) (sink_faults : K → ℕ)
    (old new : End S K) : Type 0 where
  pub source_fault : new.status ≡ SOURCE_FAULT → Rose (source_faults old.source) (source_faults new.source)
  pub sink_fault : new.status ≡ SINK_FAULT → Rose (sink_faults old.sink) (sink_faults new.sink)
  pub input_too_long : new.status ≡ INPUT_TOO_LONG → TakesExactly (left old.source) (left new.source) INPUT_LIMIT
