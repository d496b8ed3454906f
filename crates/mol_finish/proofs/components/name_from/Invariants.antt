use Rattle.std.proofs.Common.{◌-◌}
use Rattle.mol_finish.specs.Naming.{IsNamed}
use Rattle.mol_finish.proofs.Namings.{IsNamingFrom}
use Rattle.mol_finish.proofs.components.name_from.Given as goal

abbrev pub invariant-loop-next : goal.invariant-loop-next
invariant-loop-next l =
    record {
      from : IsNamingFrom l.adjacency.atoms l.adjacency.ends l.least l.fn.components l.components l.queue.items l.next;
      named : IsNamed l.components l.least;
    }

abbrev pub decreases-loop-next : goal.decreases-loop-next
decreases-loop-next l = l.adjacency.atoms - l.next
