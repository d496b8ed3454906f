-- For callers: the lines of a drill.
use Rattle.std.specs.Prelude.{◌≡◌, ◌≤◌, ℕ, List, [], ◌∷◌, ◌++◌, Option, None, Some, codes}
use Rattle.std.specs.Fmt.{decimal}
use Rattle.disk_pair.specs.declared.choice.Which.{Which}
use Rattle.disk_pair.specs.declared.choice.Which.TheVariants.{First, Second}
use Rattle.io_edge.specs.Lines.{TextLine, Whole, TooLong}
use Rattle.drill_run.specs.declared.line.TheConstants.{LAST_IMAGE, MOST_CALLS, SESSIONS}

-- an empty line, a script line for a session, a stop of a disk, a failure of a disk, or a reopening
pub data DrillLine : Type 0 where
  Empty : DrillLine
  Session : (number : ℕ) (line : List ℕ) → DrillLine
  Stop : (disk : Which) (calls : ℕ) → DrillLine
  Fail : (disk : Which) (call : ℕ) → DrillLine
  Reopen : (image : ℕ) → DrillLine

-- the word for disk `a`, or the one for disk `b`
abbrev pub word_for : Which → List ℕ → List ℕ → List ℕ
word_for First a b = a
word_for Second a b = b

abbrev pub stop_word : Which → List ℕ
stop_word disk = word_for disk (codes "stop") (codes "stop-b")

abbrev pub fail_word : Which → List ℕ
fail_word disk = word_for disk (codes "fail") (codes "fail-b")

-- the line is this one, written out
abbrev pub Spells : List ℕ → DrillLine → Type 0
Spells line Empty = line ≡ []
Spells line (Session number text) = (1 ≤ number) × (number ≤ SESSIONS) × (line ≡ decimal number ++ 32 ∷ text)
Spells line (Stop disk calls) = (calls ≤ MOST_CALLS) × (line ≡ stop_word disk ++ 32 ∷ decimal calls)
Spells line (Fail disk call) = (1 ≤ call) × (call ≤ MOST_CALLS) × (line ≡ fail_word disk ++ 32 ∷ decimal call)
Spells line (Reopen image) = (image ≤ LAST_IMAGE) × (line ≡ codes "reopen" ++ 32 ∷ decimal image)

-- the line of a drill that a text is, if it is one
abbrev pub IsLine : List ℕ → Option DrillLine → Type 0
IsLine text (Some line) = Spells text line
IsLine text None = (line : DrillLine) → ¬ Spells text line

-- a line that is too long is no line of a drill
abbrev pub Reads : TextLine → Option DrillLine → Type 0
Reads (Whole text) read = IsLine text read
Reads (TooLong size) read = read ≡ None
