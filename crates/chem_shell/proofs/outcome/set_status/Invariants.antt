use Rattle.std.proofs.Common.{◌≡◌, ◌++◌, map, take, drop}
use Rattle.chem_shell.specs.Ends.{with_status}
use Rattle.chem_shell.proofs.outcome.set_status.Given as goal

abbrev pub invariant-loop-end : goal.invariant-loop-end
invariant-loop-end g l =
    l.ends ≡ map (with_status l.status) (take l.end-index l.initial.ends) ++ drop l.end-index l.initial.ends
