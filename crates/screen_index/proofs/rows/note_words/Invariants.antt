use Rattle.std.proofs.Common.{◌≡◌, ◌+◌, ◌*◌, ◌<◌, length, ℕ}
use Rattle.chem_core.specs.Bits.{HasBit}
use Rattle.chem_core.specs.Words.{bits_of}
use Rattle.screen_index.proofs.rows.note_words.Given as goal

abbrev pub invariant-loop-place : goal.invariant-loop-place
invariant-loop-place l = record {
  length : length l.rows ≡ 1024;
  kept : (bit : ℕ) → HasBit (bits_of l.fn.rows) bit → HasBit (bits_of l.rows) bit;
  noted : (bit : ℕ) → bit < 64 * l.place → HasBit (bits_of l.words) bit
      → HasBit (bits_of l.rows) (64 * bit + l.column);
}
