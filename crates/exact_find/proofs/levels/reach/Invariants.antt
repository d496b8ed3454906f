use Rattle.std.proofs.Common.{◌-◌, length}
use Rattle.exact_find.specs.Levels.{IsSpread}
use Rattle.exact_find.proofs.levels.reach.Given as goal

abbrev pub invariant-loop-at : goal.invariant-loop-at
invariant-loop-at l = IsSpread l.mol l.start l.fn.levels l.levels l.list l.at l.last

abbrev pub decreases-loop-at : goal.decreases-loop-at
decreases-loop-at l = length l.mol.atoms - l.at
