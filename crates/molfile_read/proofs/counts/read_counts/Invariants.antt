use Rattle.std.proofs.Common.{◌≡◌, drop}
use Rattle.molfile_read.proofs.counts.read_counts.Given as goal

abbrev pub invariant-loop : goal.invariant-loop
invariant-loop l = l.lines ≡ drop l.counter l.fn.lines
