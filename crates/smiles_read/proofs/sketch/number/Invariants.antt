use Rattle.std.proofs.Common.{◌≡◌, ◌++◌, take, drop}
use Rattle.smiles_read.specs.Sketch.{numbered}
use Rattle.smiles_read.proofs.sketch.number.Given as goal

abbrev pub invariant-loop-place : goal.invariant-loop-place
invariant-loop-place l = l.atoms ≡ numbered (take l.place l.initial.atoms) ++ drop l.place l.initial.atoms
