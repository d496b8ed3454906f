use Rattle.std.proofs.Common.{◌≡◌, length}
use Rattle.path_print.proofs.Neighbours.{AreGathered}
use Rattle.path_print.proofs.rows.gather.Given as goal

-- the neighbours so far
abbrev pub invariant-loop-to : goal.invariant-loop-to
invariant-loop-to l = record {
  size : length l.ends ≡ 256;
  ends : AreGathered l.atoms l.square l.atom l.ends l.count l.to;
}
