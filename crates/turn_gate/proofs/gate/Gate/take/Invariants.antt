-- No try but the last changes anything.
use Rattle.std.proofs.Common.{◌≡◌}
use Rattle.turn_gate.proofs.gate.Gate.take.Given as goal

abbrev pub invariant-loop : goal.invariant-loop
invariant-loop g l = (l.pass.seat.me ≡ l.initial.pass.seat.me) × (l.pass.seat.table_id ≡ l.initial.pass.seat.table_id)
