use Rattle.std.proofs.Common.{◌≡◌, ◌*◌, ◌<◌, ℕ, bit_and, slice_index}
use Rattle.chem_core.proofs.print.covers.Given as goal

abbrev pub invariant-loop-group : goal.invariant-loop-group
invariant-loop-group l =
    (k : ℕ) → k < 4 * l.group → bit_and (slice_index l.have k) (slice_index l.want k) ≡ slice_index l.want k
