-- The words of a print as its bits. For private clauses alone.
use Rattle.std.specs.Prelude.{ℕ, ◌==◌, Bool, List, map}
use Rattle.std.specs.List.{flat_map, range_with_len}
use Rattle.std.specs.Int.{bit_at}

-- the 64 bits of a word, the lowest first
unfoldable pub word_bits : ℕ → List Bool
word_bits word = map (λ k. bit_at word k == 1) (range_with_len 0 64)

-- the bits of all words, one after another
abbrev pub bits_of : List ℕ → List Bool
bits_of words = flat_map word_bits words
