use Rattle.std.proofs.Common.{◌≡◌, take}
use Rattle.mol_finish.specs.Meant.{meant_bonds}
use Rattle.mol_finish.proofs.molecule.bonds.Given as goal

abbrev pub invariant-loop-place : goal.invariant-loop-place
invariant-loop-place l = l.bonds.items ≡ meant_bonds l.aromatic (take l.place l.sketch)
