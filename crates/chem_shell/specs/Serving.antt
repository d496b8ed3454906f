-- For private clauses alone: the output of a session for a script, by how it ended; and the output of one text.
use Rattle.std.specs.Prelude.{◌≡◌, ℕ, List, [], Option, IfSome}
use Rattle.std.specs.Io.KnownBytes.{Appends}
use Rattle.io_edge.specs.Faults.{Rose}
use Rattle.io_edge.specs.Lines.{lines_of}
use Rattle.io_edge.specs.Sink.{AppendsPrefix}
use Rattle.session_acts.specs.Cursors.{Calls}
use Rattle.session_acts.specs.Served as session
use Rattle.session_acts.specs.Served.{Writes, WritesForTaken}
use Rattle.session_acts.specs.Truths.{IsTrueService}
use Rattle.dialogue.specs.declared.end.EndStatus.{EndStatus}
use Rattle.store_machine.specs.declared.machine.History.{History}
use Rattle.chem_shell.specs.Status.{IsSinkStatus}
use Rattle.serve_ends.specs.declared.status.TheConstants.{DONE, SINK_FAULT, NO_MEMORY}

-- a session put this of a script by these calls, and the history is true of it
pub record IsScriptServed (ended : EndStatus) (page : ℕ) (input left before after : Option (List ℕ)) (calls : Calls)
    (history : History) : Type 0 where
  pub script : IfSome input (λ bytes. Writes before after (λ text.
      session.IsServed ended page (lines_of bytes) calls text
      × IsTrueService ended history page (lines_of bytes) calls text))
  pub taken : session.IsInputFault ended → WritesForTaken input left before after (session.IsAllOfTaken page calls)

-- a text was put, by the status of its end
pub record Puts (text : List ℕ) (before after : Option (List ℕ)) (faults faults' : ℕ) (status : ℕ) : Type 0 where
  pub status_is : IsSinkStatus status
  pub all : status ≡ DONE → Appends before after text
  pub part : status ≡ SINK_FAULT → AppendsPrefix before after text
  pub rose : status ≡ SINK_FAULT → Rose faults faults'
  pub nothing : status ≡ NO_MEMORY → Appends before after []
