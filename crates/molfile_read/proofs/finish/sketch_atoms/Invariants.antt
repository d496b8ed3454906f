use Rattle.std.proofs.Common.{◌≡◌, take}
use Rattle.molfile_read.specs.Reading.{sketch_atoms}
use Rattle.molfile_read.proofs.finish.sketch_atoms.Given as goal

abbrev pub invariant-loop-place : goal.invariant-loop-place
invariant-loop-place l = l.made.items ≡ sketch_atoms l.settings (take l.place l.atoms)
