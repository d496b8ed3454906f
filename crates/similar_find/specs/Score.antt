-- The number of bits that two prints have in common, or together. For callers.
use Rattle.std.specs.Prelude.{ℕ, ◌||◌, Bool, count_by, List, zip}

-- the number of bits in at least one
abbrev pub all_bits : List Bool → List Bool → ℕ
all_bits left right = count_by (λ p. p.0 || p.1) (zip left right)
