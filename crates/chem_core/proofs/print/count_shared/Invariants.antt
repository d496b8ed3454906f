use Rattle.std.proofs.Common.{◌≡◌, ◌*◌, ◌≤◌, take}
use Rattle.chem_core.specs.Bits.{shared_bits}
use Rattle.chem_core.specs.Words.{bits_of}
use Rattle.chem_core.proofs.print.count_shared.Given as goal

abbrev pub invariant-loop-place : goal.invariant-loop-place
invariant-loop-place l = record {
  count : l.count ≡ shared_bits (bits_of (take l.place l.left)) (bits_of (take l.place l.right));
  few : l.count ≤ 64 * l.place;
}
