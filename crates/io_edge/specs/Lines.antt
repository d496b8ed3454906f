-- The lines of a text, and the progress of a reading. For callers.
use Rattle.std.specs.Prelude.{◌≡◌, ◌<◌, ◌+◌, ◌-◌, ◌⊎◌, ℕ, Bool, true, false, IsTrue, List, [], ◌∷◌, ◌++◌, length, map, nat_lt, ◌==◌, if◌then◌else◌, Contains}
use Rattle.io_edge.specs.declared.lines.TheConstants.{LF, CR, LONGEST_LINE}

-- a line as it is answered: its text, or its number of bytes if it is too long
pub data TextLine : Type 0 where
  Whole : (bytes : List ℕ) → TextLine
  TooLong : (size : ℕ) → TextLine

-- a piece of a text: its bytes up to an LF or the text's end, and whether an LF ended it
pub record Piece : Type 0 where
  pub bytes : List ℕ
  pub ended : Bool

-- a byte before the first piece, as its first byte
abbrev pub before_first : ℕ → List Piece → List Piece
before_first b [] = record { bytes = b ∷ []; ended = false } ∷ []
before_first b (piece ∷ rest) = record piece { bytes = b ∷ piece.bytes } ∷ rest

-- the pieces of a text: one for each LF, and one for the bytes after the last LF, if there are any
abbrev pub pieces : List ℕ → List Piece
pieces [] = []
pieces (b ∷ bs) = if b == LF then (record { bytes = []; ended = true } ∷ pieces bs) else before_first b (pieces bs)

-- the bytes without the one CR at their end, if there is one
abbrev pub without_cr : List ℕ → List ℕ
without_cr [] = []
without_cr (b ∷ []) = if b == CR then [] else b ∷ []
without_cr (b ∷ c ∷ bs) = b ∷ without_cr (c ∷ bs)

-- a line's text: one CR directly before the LF is dropped
abbrev pub text_of : Piece → List ℕ
text_of piece = if piece.ended then without_cr piece.bytes else piece.bytes

-- a text as a line, which has at most LONGEST_LINE bytes
abbrev pub as_line : List ℕ → TextLine
as_line text = if nat_lt LONGEST_LINE (length text) then TooLong (length text) else Whole text

-- the rest of a text as a line, after its first `dropped` bytes were dropped
abbrev pub rest_as_line : ℕ → List ℕ → TextLine
rest_as_line dropped text =
    if nat_lt LONGEST_LINE (dropped + length text) then TooLong (dropped + length text) else Whole text

-- the lines of a whole text
abbrev pub lines_of : List ℕ → List TextLine
lines_of bytes = map (λ piece. as_line (text_of piece)) (pieces bytes)

-- the pieces that an LF ended
abbrev pub ended_pieces : List Piece → List Piece
ended_pieces [] = []
ended_pieces (piece ∷ rest) = if piece.ended then piece ∷ ended_pieces rest else []

-- the whole lines of a text: those that an LF ended
abbrev pub whole_lines : List ℕ → List TextLine
whole_lines bytes = map (λ piece. as_line (text_of piece)) (ended_pieces (pieces bytes))

-- the lines of pieces, if the first `dropped` bytes of the first piece were dropped
abbrev pub lines_behind : ℕ → List Piece → List TextLine
lines_behind dropped [] = []
lines_behind dropped (piece ∷ rest) =
    rest_as_line dropped (text_of piece) ∷ map (λ piece. as_line (text_of piece)) rest

-- The progress of a reading. `pending`: the bytes that were taken, kept and not answered. `dropped`: the number of
-- bytes that were dropped from the front of the line under way, which is then too long. `taken` and `limit`: the number
-- of bytes that were taken, and that may be. `ended`: the end was met. `text`: the last line's text.
pub record Reading : Type 0 where
  pub pending : List ℕ
  pub dropped : ℕ
  pub taken : ℕ
  pub limit : ℕ
  pub ended : Bool
  pub text : List ℕ

-- the lines that are still to be answered, if `left` is left in the source
abbrev pub lines_left : Reading → List ℕ → List TextLine
lines_left reading left = lines_behind reading.dropped (pieces (reading.pending ++ left))

-- A whole line is left to answer in the taken bytes: an LF, or the end was met after bytes or a long line.
abbrev pub HasWholeLine : Reading → Type 0
HasWholeLine reading = Contains reading.pending LF
    ⊎ (IsTrue reading.ended × ((0 < length reading.pending) ⊎ (0 < reading.dropped)))

-- the end was not met, and no whole line is left to answer
pub record AwaitsBytes (reading : Reading) : Type 0 where
  pub not_ended : reading.ended ≡ false
  pub none : ¬ HasWholeLine reading

-- all bytes that may be taken were taken, the end was not met, and no whole line is left to answer
pub record IsAtLimit (reading : Reading) : Type 0 where
  pub all : reading.taken ≡ reading.limit
  pub not_ended : reading.ended ≡ false
  pub none : ¬ HasWholeLine reading

-- the end was met, and nothing is left to answer
pub record IsFinished (reading : Reading) : Type 0 where
  pub ended : reading.ended ≡ true
  pub none : reading.pending ≡ []
  pub short : reading.dropped ≡ 0

-- the number of taken bytes that belong to answered lines, or were dropped
abbrev pub done_bytes : Reading → ℕ
done_bytes reading = reading.taken - length reading.pending
