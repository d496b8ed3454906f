-- A call that was interrupted moved nothing.
use Rattle.std.proofs.Common.{◌≡◌, length}
use Rattle.std.specs.Io.KnownBytes.{Keeps}
use Rattle.io_edge.proofs.standard.read_on.Given as goal

abbrev pub invariant-loop : goal.invariant-loop
invariant-loop g l = (length l.room ≡ length l.initial.room)
    × Keeps (g.R.Read.remaining l.initial.reader) (g.R.Read.remaining l.reader)
