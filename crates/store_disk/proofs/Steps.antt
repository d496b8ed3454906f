-- The numbers of a store's callers.
use Rattle.std.proofs.Common.{Bool, true, ℕ}

-- every caller's numbers
abbrev pub all : ℕ → Bool
all _ = true
