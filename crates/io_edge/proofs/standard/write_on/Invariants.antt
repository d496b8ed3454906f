-- A call that was interrupted moved nothing.
use Rattle.std.specs.Io.KnownBytes.{Keeps}
use Rattle.io_edge.proofs.standard.write_on.Given as goal

abbrev pub invariant-loop : goal.invariant-loop
invariant-loop g l = Keeps (g.W.Write.contents l.initial.writer) (g.W.Write.contents l.writer)
