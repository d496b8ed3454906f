-- A print: a list of 1024 truth values, by the number of the bit. For callers.
use Rattle.std.specs.Prelude.{ℕ, ◌≡◌, ◌&&◌, Bool, count_by, false, true, List, slice_index_or, zip}

-- the bit is set
abbrev pub HasBit : List Bool → ℕ → Type 0
HasBit print bit = slice_index_or print bit false ≡ true

-- the number of bits that are set
abbrev pub set_bits : List Bool → ℕ
set_bits print = count_by (λ bit. bit) print

-- the number of bits that are set in both
abbrev pub shared_bits : List Bool → List Bool → ℕ
shared_bits left right = count_by (λ p. p.0 && p.1) (zip left right)
