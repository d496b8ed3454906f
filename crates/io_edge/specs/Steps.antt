-- The steps of a call for the next line. For private clauses alone.
use Rattle.std.specs.Prelude.{◌≡◌, ◌≢◌, ◌≤◌, ◌<◌, ◌+◌, ℕ, Bool, false, nat_lt, if◌then◌else◌, Option, None, Some, Result, Ok, Err, List, [], ◌++◌, length, take, drop}
use Rattle.io_edge.specs.declared.lines.Line.{Line}
use Rattle.io_edge.specs.declared.lines.Line.TheVariants.{Text, Long, End}
use Rattle.io_edge.specs.declared.lines.LineFault.{LineFault}
use Rattle.io_edge.specs.declared.lines.LineFault.TheVariants as fault
use Rattle.io_edge.specs.declared.lines.TheConstants.{LONGEST_LINE}
use Rattle.std.specs.Io.KnownBytes.{IsAtEnd}
use Rattle.io_edge.specs.Source.{Leaves}
use Rattle.io_edge.specs.Cut.{HasNoLf}
use Rattle.io_edge.specs.Lines.{Reading, lines_left, HasWholeLine, IsAtLimit, IsFinished, done_bytes}
use Rattle.io_edge.specs.NextLine.{Answers, Counts, OnLine, OnText, OnNoText}

-- facts that hold of each reading
pub record IsSound (reading : Reading) : Type 0 where
  pub pending : reading.dropped + length reading.pending ≤ reading.taken
  pub within : reading.taken ≤ reading.limit
  pub front : 0 < reading.dropped → LONGEST_LINE < reading.dropped
  pub rest : 0 < reading.dropped → 0 < length reading.pending

-- true if the next line is too long, if its text has `text_len` bytes after those that were dropped
abbrev pub is_long : Reading → ℕ → Bool
is_long reading text_len = nat_lt LONGEST_LINE (reading.dropped + text_len)

-- the front of the pending bytes, as a line whose text has this length
abbrev pub front_line : Reading → ℕ → Line
front_line reading text_len = if is_long reading text_len then Long (reading.dropped + text_len) else Text

-- the reading after that line, which takes len bytes
abbrev pub behind_line : Reading → ℕ → ℕ → Reading
behind_line reading text_len len = record reading {
  pending = drop len reading.pending;
  dropped = 0;
  text = if is_long reading text_len then [] else take text_len reading.pending;
}

-- a whole line was cut off the taken bytes
pub record CutsLine (line : Line) (old new : Reading) : Type 0 where
  pub whole : HasWholeLine old
  pub is_line : line ≢ End
  pub lines : Answers (Ok line) old [] new
  pub taken : new.taken ≡ old.taken
  pub limit : new.limit ≡ old.limit
  pub ended : new.ended ≡ old.ended
  pub progress : done_bytes old < done_bytes new
  pub fits : OnText (Ok line) (length new.text ≤ LONGEST_LINE)
  pub none : OnNoText (Ok line) (new.text ≡ [])

-- the taken bytes were enough for an answer
pub record AnswersHeld (answer : Result Line LineFault) (old new : Reading) : Type 0 where
  pub lines : Answers answer old [] new
  pub taken : new.taken ≡ old.taken
  pub limit : new.limit ≡ old.limit
  pub ended : new.ended ≡ old.ended
  pub progress : done_bytes old ≤ done_bytes new
  pub rises : OnLine answer (done_bytes old < done_bytes new)
  pub fits : OnText answer (length new.text ≤ LONGEST_LINE)
  pub none : OnNoText answer (new.text ≡ [])
  pub source : answer ≢ Err fault.Source
  pub too_long : answer ≡ Err fault.TooLong → IsAtLimit new
  pub at_limit : IsAtLimit old → answer ≡ Err fault.TooLong
  pub end : answer ≡ Ok End → IsFinished new
  pub finished : IsFinished old → answer ≡ Ok End

-- more bytes are needed for an answer, and may be taken
pub record NeedsMore (reading : Reading) : Type 0 where
  pub none : HasNoLf reading.pending
  pub line : ¬ HasWholeLine reading
  pub not_ended : reading.ended ≡ false
  pub below : reading.taken < reading.limit

-- if the bytes left in the source are known, before and now, no byte is left now
abbrev pub IsEndOf : Option (List ℕ) → Option (List ℕ) → Type 0
IsEndOf None new = Unit {0}
IsEndOf (Some xs) new = IsAtEnd new

-- bytes were taken, and no line was answered
pub record Reads (old new : Reading) (left_old left_new : Option (List ℕ)) : Type 0 where
  pub got : List ℕ
  pub leaves : Leaves left_old got left_new
  pub counts : Counts old got new
  pub lines : (rest : List ℕ) → lines_left new rest ≡ lines_left old (got ++ rest)
  pub progress : done_bytes old ≤ done_bytes new
