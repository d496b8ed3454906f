use Rattle.std.proofs.Common.{◌≡◌, false}
use Rattle.chemdb.proofs.settle.gates.Given as goal

-- nothing is in doubt, and no base record is left
abbrev pub invariant-loop : goal.invariant-loop
invariant-loop l = (l.journal.doubt ≡ false) × (l.journal.left ≡ 0)
