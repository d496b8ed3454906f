-- How a session ended, by the status of its end.
use Rattle.std.proofs.Common.{◌≡◌, ◌≢◌, ℕ, refl, subst, arith}
use Rattle.io_edge.specs.declared.sinks.Sink as put
use Rattle.io_edge.specs.declared.sources.Source as taken
use Rattle.session_acts.specs.Served.{EndsAs}
use Rattle.dialogue.specs.declared.end.EndStatus.{EndStatus}
use Rattle.dialogue.specs.declared.end.EndStatus.TheVariants.{Done, SourceFault, SinkFault, NoMemory, InputTooLong, Worn}
use Rattle.serve_ends.specs.Status.{IsStatusOf}
use Rattle.serve_ends.specs.declared.end.End.{End}
use Rattle.serve_ends.specs.declared.status.TheConstants.{SOURCE_FAULT, SINK_FAULT, INPUT_TOO_LONG, WORN}
use Rattle.chem_shell.specs.Ends.{HasEndCauses}
use Rattle.chem_shell.specs.declared.settings.TheConstants.{INPUT_LIMIT}

pub ended_worn : (ended : EndStatus) (status : ℕ) → IsStatusOf ended status → status ≡ WORN → ended ≡ Worn
ended_worn Done status is e = absurd (omega (arith, is, e))
ended_worn SourceFault status is e = absurd (omega (arith, is, e))
ended_worn SinkFault status is e = absurd (omega (arith, is, e))
ended_worn NoMemory status is e = absurd (omega (arith, is, e))
ended_worn InputTooLong status is e = absurd (omega (arith, is, e))
ended_worn Worn status is e = refl

pub not_worn : (ended : EndStatus) (status : ℕ) → IsStatusOf ended status → status ≢ WORN → ended ≢ Worn
not_worn ended status is fit e = fit (subst (λ (x : EndStatus). IsStatusOf x status) e is)

ended_source : (ended : EndStatus) (status : ℕ) → IsStatusOf ended status → status ≡ SOURCE_FAULT
    → ended ≡ SourceFault
ended_source Done status is e = absurd (omega (arith, is, e))
ended_source SourceFault status is e = refl
ended_source SinkFault status is e = absurd (omega (arith, is, e))
ended_source NoMemory status is e = absurd (omega (arith, is, e))
ended_source InputTooLong status is e = absurd (omega (arith, is, e))
ended_source Worn status is e = absurd (omega (arith, is, e))

ended_sink : (ended : EndStatus) (status : ℕ) → IsStatusOf ended status → status ≡ SINK_FAULT → ended ≡ SinkFault
ended_sink Done status is e = absurd (omega (arith, is, e))
ended_sink SourceFault status is e = absurd (omega (arith, is, e))
ended_sink SinkFault status is e = refl
ended_sink NoMemory status is e = absurd (omega (arith, is, e))
ended_sink InputTooLong status is e = absurd (omega (arith, is, e))
ended_sink Worn status is e = absurd (omega (arith, is, e))

ended_long : (ended : EndStatus) (status : ℕ) → IsStatusOf ended status → status ≡ INPUT_TOO_LONG
    → ended ≡ InputTooLong
ended_long Done status is e = absurd (omega (arith, is, e))
ended_long SourceFault status is e = absurd (omega (arith, is, e))
ended_long SinkFault status is e = absurd (omega (arith, is, e))
ended_long NoMemory status is e = absurd (omega (arith, is, e))
ended_long InputTooLong status is e = refl
ended_long Worn status is e = absurd (omega (arith, is, e))

-- the causes of an end's status
pub causes_of_end : {S K : Type 0} (source : taken.Ghosts S) (sink : put.Ghosts K) (ended : EndStatus)
    (old new : End S K) → IsStatusOf ended new.status
    → EndsAs source sink ended INPUT_LIMIT old.source new.source old.sink new.sink
    → HasEndCauses source.left source.faults sink.faults old new
causes_of_end source sink ended old new is ends = record {
  source_fault = λ e. ends.source_fault (ended_source ended new.status is e);
  sink_fault = λ e. ends.sink_fault (ended_sink ended new.status is e);
  input_too_long = λ e. ends.too_long (ended_long ended new.status is e);
}
