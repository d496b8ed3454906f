use Rattle.std.proofs.Common.{◌≢◌, ℕ, Some, slice_get, ◌<◌}
use Rattle.chem_core.specs.Element.{symbols}
use Rattle.chem_core.proofs.element.number_of.Given as goal

abbrev pub invariant-loop-number : goal.invariant-loop-number
invariant-loop-number l = (k : ℕ) → k < l.number → slice_get symbols k ≢ Some l.text
