use Rattle.std.proofs.Common.{◌≡◌, ◌<◌, get_or, length, ℕ}
use Rattle.snap_registry.proofs.Registry.new.Given as goal

abbrev pub invariant-loop-slot : goal.invariant-loop-slot
invariant-loop-slot l = record {
  length : length l.slots ≡ 64;
  filled : (k : ℕ) → k < l.slot → get_or l.slots k 0 ≡ k;
}
