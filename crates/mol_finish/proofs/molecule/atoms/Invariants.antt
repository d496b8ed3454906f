use Rattle.std.proofs.Common.{◌≡◌, take}
use Rattle.mol_finish.specs.Meant.{meant_atoms}
use Rattle.mol_finish.proofs.molecule.atoms.Given as goal

abbrev pub invariant-loop-place : goal.invariant-loop-place
invariant-loop-place l = l.atoms.items ≡ meant_atoms l.aromatic l.valences (take l.place l.sketch)
