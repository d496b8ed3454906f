use Rattle.std.proofs.Common.{◌-◌}
use Rattle.ring_find.specs.Search.{IsRingSearch}
use Rattle.ring_find.proofs.search.ring_length.Given as goal

abbrev pub invariant-loop-next : goal.invariant-loop-next
invariant-loop-next l =
    IsRingSearch l.graph.ends l.kept l.bond l.graph.atoms l.marks l.queue.items l.next

abbrev pub decreases-loop-next : goal.decreases-loop-next
decreases-loop-next l = l.graph.atoms - l.next
