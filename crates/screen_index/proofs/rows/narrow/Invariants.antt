use Rattle.std.proofs.Common.{◌≡◌, ◌+◌, ◌*◌, ◌<◌, ℕ}
use Rattle.std.specs.Int.{bit_at}
use Rattle.chem_core.specs.Bits.{HasBit}
use Rattle.chem_core.specs.Words.{bits_of}
use Rattle.screen_index.proofs.rows.narrow.Given as goal

abbrev pub invariant-loop-rest : goal.invariant-loop-rest
invariant-loop-rest l = record {
  only : (bit : ℕ) → bit < 64 → bit_at l.rest bit ≡ 1 → bit_at l.word bit ≡ 1;
  kept : (column : ℕ) → column < 64 → bit_at l.columns column ≡ 1
      → ((bit : ℕ) → bit < 64 → bit_at l.word bit ≡ 1
      → HasBit (bits_of l.rows) (64 * (64 * l.place + bit) + column))
      → bit_at l.left column ≡ 1;
}

abbrev pub decreases-loop-rest : goal.decreases-loop-rest
decreases-loop-rest l = l.rest
