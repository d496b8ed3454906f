use Rattle.std.proofs.Common.{◌≡◌, Some, take, zip, slice_get}
use Rattle.chem_core.specs.declared.sketch.SketchAtom.{SketchAtom}
use Rattle.aromatic.specs.Electrons.{environment_among}
use Rattle.aromatic.proofs.environment.environment_of.Given as goal

abbrev pub invariant-loop-place : goal.invariant-loop-place
invariant-loop-place l = (x : SketchAtom) → slice_get l.atoms l.atom ≡ Some x
    → l.environment ≡ environment_among l.atoms l.atom x (take l.place (zip l.bonds l.bond_in_ring))
