-- For callers: the status of an end, by how its session ended.
use Rattle.std.specs.Prelude.{◌≡◌, ℕ}
use Rattle.dialogue.specs.declared.end.EndStatus.{EndStatus}
use Rattle.dialogue.specs.declared.end.EndStatus.TheVariants.{Done, SourceFault, SinkFault, NoMemory, InputTooLong, Worn}
use Rattle.serve_ends.specs.declared.status.TheConstants.{DONE, SOURCE_FAULT, SINK_FAULT, NO_MEMORY, INPUT_TOO_LONG, WORN}

abbrev pub IsStatusOf : EndStatus → ℕ → Type 0
IsStatusOf Done status = status ≡ DONE
IsStatusOf SourceFault status = status ≡ SOURCE_FAULT
IsStatusOf SinkFault status = status ≡ SINK_FAULT
IsStatusOf NoMemory status = status ≡ NO_MEMORY
IsStatusOf InputTooLong status = status ≡ INPUT_TOO_LONG
IsStatusOf Worn status = status ≡ WORN
