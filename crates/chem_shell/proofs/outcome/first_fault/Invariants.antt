use Rattle.std.proofs.Common.{◌≡◌, map, take}
use Rattle.chem_shell.specs.Status.{first_fault}
use Rattle.chem_shell.proofs.outcome.first_fault.Given as goal

abbrev pub invariant-loop-end : goal.invariant-loop-end
invariant-loop-end g l = first_fault (map (λ end. end.status) (take l.end-index l.ends)) ≡ 0
