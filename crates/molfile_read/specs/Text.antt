-- The lines of a text, numbered from 1. For callers.
use Rattle.std.specs.Prelude.{ℕ, ◌==◌, List, [], ◌∷◌, if◌then◌else◌}
use Rattle.std.specs.List.{enumerate_from}

-- a byte more at the front of the first line
abbrev pub with_byte : ℕ → List (List ℕ) → List (List ℕ)
with_byte byte [] = (byte ∷ []) ∷ []
with_byte byte (line ∷ lines) = (byte ∷ line) ∷ lines

-- the lines: each ends with LF, but the last may end without it
abbrev pub lines_of : List ℕ → List (List ℕ)
lines_of [] = []
lines_of (byte ∷ bytes) = if byte == 10 then [] ∷ lines_of bytes else with_byte byte (lines_of bytes)

-- a line with its number
abbrev pub Line : Type 0
Line = ℕ × List ℕ

abbrev pub numbered_lines : List ℕ → List Line
numbered_lines text = enumerate_from 1 (lines_of text)
