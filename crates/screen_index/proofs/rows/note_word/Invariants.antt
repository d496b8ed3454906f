use Rattle.std.proofs.Common.{◌≡◌, ◌+◌, ◌*◌, ◌<◌, ◌⊎◌, length, ℕ}
use Rattle.std.specs.Int.{bit_at}
use Rattle.chem_core.specs.Bits.{HasBit}
use Rattle.chem_core.specs.Words.{bits_of}
use Rattle.screen_index.proofs.rows.note_word.Given as goal

abbrev pub invariant-loop-rest : goal.invariant-loop-rest
invariant-loop-rest l = record {
  length : length l.rows ≡ 1024;
  kept : (bit : ℕ) → HasBit (bits_of l.fn.rows) bit → HasBit (bits_of l.rows) bit;
  noted : (bit : ℕ) → bit < 64 → bit_at l.word bit ≡ 1
      → (bit_at l.rest bit ≡ 1) ⊎ HasBit (bits_of l.rows) (64 * (64 * l.place + bit) + l.column);
}

abbrev pub decreases-loop-rest : goal.decreases-loop-rest
decreases-loop-rest l = l.rest
