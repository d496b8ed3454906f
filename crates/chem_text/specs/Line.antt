-- The lines of a text. Each ends with LF, but the last may end without it. For callers.
use Rattle.std.specs.Prelude.{◌≡◌, ◌≢◌, ◌⊎◌, ℕ, ◌+◌, ◌<◌, ◌≤◌, List, length, slice_index}

-- an LF is at the place
abbrev pub HasLf : List ℕ → ℕ → Type 0
HasLf text i = (i < length text) × (slice_index text i ≡ 10)

-- The line from a place on ends at `end`, before its LF, and the next one starts at `next`. If no LF is left, both are
-- the length.
pub record IsLine (text : List ℕ) (from end next : ℕ) : Type 0 where
  pub forward : from ≤ end
  pub no_lf : (i : ℕ) → from ≤ i → i < end → slice_index text i ≢ 10
  pub ended : (HasLf text end × (next ≡ end + 1)) ⊎ ((end ≡ length text) × (next ≡ length text))
