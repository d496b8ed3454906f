use Rattle.std.proofs.Common.{◌≡◌, false}
use Rattle.chemdb.proofs.settle.pass_base.Given as goal

-- nothing is in doubt
abbrev pub invariant-loop : goal.invariant-loop
invariant-loop l = l.journal.doubt ≡ false
