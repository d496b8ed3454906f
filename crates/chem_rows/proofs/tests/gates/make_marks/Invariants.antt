-- The pass stays of its gate, with its numbers.
use Rattle.std.proofs.Common.{◌≡◌}
use Rattle.turn_gate.specs.Passes.{IsOf, known}
use Rattle.chem_rows.proofs.tests.gates.make_marks.Given as goal

abbrev pub invariant-loop-i : goal.invariant-loop-i
invariant-loop-i g l =
    IsOf l.gate l.pass × ((known l.pass).numbers ≡ (known l.initial.pass).numbers)
    × ((known l.pass).given ≡ (known l.initial.pass).given)
