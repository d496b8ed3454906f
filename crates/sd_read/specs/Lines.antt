-- The lines of a text with their places. For callers.
use Rattle.std.specs.Prelude.{ℕ, suc, ◌==◌, List, [], ◌∷◌, if◌then◌else◌}

-- a line without its LF, and the place after that
pub record Line : Type 0 where
  pub bytes : List ℕ
  pub next : ℕ

abbrev pub line_of : List ℕ → ℕ → Line
line_of bytes next = record { bytes = bytes; next = next }

-- a byte more at the front of the first line
abbrev pub with_byte : ℕ → ℕ → List Line → List Line
with_byte at byte [] = line_of (byte ∷ []) (suc at) ∷ []
with_byte at byte (line ∷ lines) = line_of (byte ∷ line.bytes) line.next ∷ lines

-- the lines of bytes that begin at a place: each ends with LF, but the last may end without it
abbrev pub lines_from : ℕ → List ℕ → List Line
lines_from at [] = []
lines_from at (byte ∷ bytes) =
    if byte == 10 then line_of [] (suc at) ∷ lines_from (suc at) bytes
    else with_byte at byte (lines_from (suc at) bytes)
