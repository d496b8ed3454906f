use Rattle.std.proofs.Common.{◌≡◌, ◌<◌, ℕ, Some, false, slice_get}
use Rattle.chem_core.specs.declared.sketch.SketchAtom.{SketchAtom}
use Rattle.aromatic.specs.Tallies.{refused_at}
use Rattle.aromatic.proofs.perception.first_refused.Given as goal

abbrev pub invariant-loop-place : goal.invariant-loop-place
invariant-loop-place l = (b : ℕ) (y : SketchAtom) → b < l.place → slice_get l.atoms b ≡ Some y
    → refused_at l.flags l.tallies b y ≡ false
