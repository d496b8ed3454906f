use Rattle.std.proofs.Common.{slice_index}
use Rattle.mol_finish.proofs.Namings.{IsVisit}
use Rattle.mol_finish.proofs.components.visit.Given as goal

abbrev pub invariant-loop-step : goal.invariant-loop-step
invariant-loop-step l = IsVisit l.adjacency.atoms l.adjacency.ends l.least l.next
    (slice_index l.fn.queue.items l.next) l.step-items l.fn.components l.components l.queue.items l.step-index
