use Rattle.store_disk.proofs.Going.{GoingOn}
use Rattle.store_disk.proofs.compact.go_on.Given as goal

abbrev pub invariant-loop : goal.invariant-loop
invariant-loop g l = GoingOn g.D.Disk.model l.items l.memory l.fn.pair l.pair l.fn.copy l.copy l.states l.counter
