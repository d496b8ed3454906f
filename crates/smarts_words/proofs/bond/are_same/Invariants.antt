use Rattle.std.proofs.Common.{◌≡◌, length}
use Rattle.smarts_words.specs.Bonds.{same_steps}
use Rattle.smarts_words.proofs.bond.are_same.Given as goal

abbrev pub invariant-loop-xs : goal.invariant-loop-xs
invariant-loop-xs l = record { same : same_steps l.first l.second ≡ same_steps l.xs l.ys }

abbrev pub decreases-loop-xs : goal.decreases-loop-xs
decreases-loop-xs l = length l.xs
