-- Decimal numbers. For callers.
use Rattle.std.specs.Prelude.{◌≡◌, ◌≢◌, ℕ, ◌≤◌, List, length, slice_index}

-- no plus, and no zero before other bytes
pub record IsCanonical (bytes : List ℕ) : Type 0 where
  pub no_plus : slice_index bytes 0 ≢ 43
  pub no_zero : slice_index bytes 0 ≡ 48 → length bytes ≤ 1
