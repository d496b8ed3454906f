-- The atoms at which the recursive parts of a pattern hold.
use Rattle.std.specs.Prelude.{◌≡◌, ℕ, ◌+◌, ◌*◌, ◌/◌, ◌%◌, Bool, true, ◌==◌, List, slice_index}
use Rattle.std.specs.Int.{bit_at}

-- a truth value for each part and atom, in words of 64: 16 words for a part
pub record Table : Type 0 where
  pub words : List ℕ

-- true if the part holds at the atom, by the table
unfoldable pub holds_at : Table → ℕ → ℕ → Bool
holds_at table part atom = bit_at (slice_index table.words (16 * part + atom / 64)) (atom % 64) == 1

abbrev pub HoldsIn : Table → ℕ → ℕ → Type 0
HoldsIn table part atom = holds_at table part atom ≡ true
