use Rattle.std.proofs.Common.{◌≡◌, ◌++◌, map, take}
use Rattle.chem_core.proofs.mol.push_sorted.Given as goal

abbrev pub invariant-loop-step : goal.invariant-loop-step
invariant-loop-step l =
    l.pairs.items ≡ l.fn.pairs.items ++ map (λ s. (s.to, s.bond)) (take l.step-index l.steps)
