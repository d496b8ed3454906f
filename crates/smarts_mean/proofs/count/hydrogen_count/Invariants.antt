use Rattle.std.proofs.Common.{◌≡◌, true}
use Rattle.smarts_parse.specs.Truth.{is_hydrogen}
use Rattle.smarts_mean.proofs.Chosen.{Chosen}
use Rattle.smarts_mean.proofs.count.hydrogen_count.Given as goal

-- the hydrogens among the neighbours so far are counted
abbrev pub invariant-loop-neighbour : goal.invariant-loop-neighbour
invariant-loop-neighbour l = Chosen (λ p. is_hydrogen l.mol p.0 ≡ true) l.neighbours l.neighbour-index l.count
