use Rattle.std.proofs.Common.{take, zip}
use Rattle.aromatic.proofs.Sketches.{AreEnvironmentsBelow}
use Rattle.aromatic.proofs.environment.count_bonds.Given as goal

abbrev pub invariant-loop-place : goal.invariant-loop-place
invariant-loop-place l = AreEnvironmentsBelow l.atoms (take l.place (zip l.bonds l.bond_in_ring)) l.environments
