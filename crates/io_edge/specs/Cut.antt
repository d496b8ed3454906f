-- The end of a line. For private clauses alone.
use Rattle.std.specs.Prelude.{◌≡◌, ◌≢◌, ◌<◌, ℕ, List, length, take, slice_index, All}
use Rattle.io_edge.specs.declared.lines.TheConstants.{LF}

-- no LF is in these bytes
abbrev pub HasNoLf : List ℕ → Type 0
HasNoLf bytes = All (λ b. b ≢ LF) bytes

-- the first LF is at this place
pub record EndsAt (bytes : List ℕ) (at : ℕ) : Type 0 where
  pub within : at < length bytes
  pub ends : slice_index bytes at ≡ LF
  pub before : HasNoLf (take at bytes)
