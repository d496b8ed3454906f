-- The count of faults of a source or a sink, which a `u64` holds. For callers.
use Rattle.std.specs.Prelude.{◌≡◌, ◌<◌, ◌-◌, ◌^◌, ◌+◌, ◌⊎◌, ℕ, min}

-- the count rose in a call: it is greater afterwards, or at its end
abbrev pub Rose : ℕ → ℕ → Type 0
Rose before after = (before < after) ⊎ (after ≡ 2 ^ 64 - 1)

-- one more, in a count that stays at its end
abbrev pub counted : ℕ → ℕ
counted n = min (n + 1) (2 ^ 64 - 1)
