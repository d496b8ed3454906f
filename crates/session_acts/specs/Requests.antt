-- The lines of a script as requests: a line, with the lines that it takes: of a molfile, or of records of an SD file.
-- For callers.
use Rattle.std.specs.Prelude.{◌≡◌, ◌⊎◌, ℕ, zero, suc, Bool, true, false, List, [], ◌∷◌, ◌++◌, codes, if◌then◌else◌}
use Rattle.std.specs.Str.{bytes_eq}
use Rattle.io_edge.specs.Lines.{TextLine, Whole, TooLong}
use Rattle.shell_lang.specs.Command as command
use Rattle.shell_lang.specs.Command.{StartsMolfile, EndsMolfile}

pub record Request : Type 0 where
  pub line : TextLine
  pub more : List TextLine

-- a molfile is on the lines after it
abbrev pub TakesMolfile : TextLine → Type 0
TakesMolfile (Whole line) = StartsMolfile line
TakesMolfile (TooLong size) = ⊥

-- `count` records of an SD file are on the lines after it
abbrev pub TakesRecords : TextLine → ℕ → Type 0
TakesRecords (Whole line) count = (part : List ℕ) × command.TakesRecords line part count
TakesRecords (TooLong size) count = ⊥

-- no line after it belongs to it
pub record IsAlone (line : TextLine) : Type 0 where
  pub no_molfile : ¬ TakesMolfile line
  pub no_records : (count : ℕ) → ¬ TakesRecords line count

-- the last line of a molfile
abbrev pub IsLast : TextLine → Type 0
IsLast (Whole line) = EndsMolfile line
IsLast (TooLong size) = ⊥

-- a line is the last of a molfile
abbrev pub HasLast : List TextLine → Type 0
HasLast [] = ⊥
HasLast (line ∷ lines) = IsLast line ⊎ HasLast lines

-- the line that ends a record of an SD file
abbrev pub ends_record : TextLine → Bool
ends_record (Whole line) = bytes_eq line (codes "$$$$")
ends_record (TooLong size) = false

-- this number of records have their ends
abbrev pub HaveEnds : ℕ → List TextLine → Type 0
HaveEnds zero lines = Unit {0}
HaveEnds (suc n) [] = ⊥
HaveEnds (suc n) (line ∷ lines) = HaveEnds (if ends_record line then n else suc n) lines

-- the lines are a whole request, if no fewer are: a line, with those of its molfile up to its last line, or those of
-- its records, each up to and with its end
abbrev pub IsWhole : List TextLine → Type 0
IsWhole [] = ⊥
IsWhole (line ∷ more) = IsAlone line ⊎ ((TakesMolfile line × HasLast more)
    ⊎ ((count : ℕ) × TakesRecords line count × HaveEnds count more))

-- the request of these lines: the first one, with those that it takes. A request has a line
abbrev pub request_of : List TextLine → Request
request_of [] = record { line = Whole []; more = [] }
request_of (line ∷ more) = record { line = line; more = more }

-- a line is too long
abbrev pub has_long : List TextLine → Bool
has_long [] = false
has_long (TooLong size ∷ lines) = true
has_long (Whole line ∷ lines) = has_long lines

-- the line, or a line of its molfile, is too long
abbrev pub IsLong : Request → Type 0
IsLong request =
    ((size : ℕ) × (request.line ≡ TooLong size)) ⊎ (TakesMolfile request.line × (has_long request.more ≡ true))

-- the text of a molfile: its lines, each with an LF
abbrev pub molfile_text : List TextLine → List ℕ
molfile_text [] = []
molfile_text (Whole line ∷ lines) = line ++ 10 ∷ molfile_text lines
molfile_text (TooLong size ∷ lines) = molfile_text lines
