-- For private clauses alone: the lines that were taken of the request under way.
use Rattle.std.specs.Prelude.{◌≡◌, ◌≢◌, ◌≤◌, ◌↔◌, ◌+◌, ℕ, Bool, true, false, List, [], ◌∷◌, ◌++◌, length, Option, None, Some}
use Rattle.io_edge.specs.Lines.{TextLine, Whole, TooLong}
use Rattle.shell_lang.specs.Command.{IsLine, StartsMolfile, TakesLines, TakesRecords, molfile_command, records_command}
use Rattle.shell_lang.specs.declared.command.TheConstants.{MOST_SD_RECORDS}
use Rattle.session_acts.specs.Records.{records_in}
use Rattle.session_acts.specs.Requests.{HaveEnds, IsLong, IsWhole, Request, ends_record}
use Rattle.session_run.specs.Taken.{AreTaken, IsPart}
use Rattle.session_run.specs.declared.records.Part.{Part}
use Rattle.session_run.specs.declared.records.SdTexts.{SdTexts}
use Rattle.session_run.specs.declared.request.Next.{Next}
use Rattle.session_run.specs.declared.request.Next.TheVariants as nexts
use Rattle.session_run.specs.declared.request.Taking.{Taking}

-- no line ends a record
abbrev pub AreUnended : List TextLine → Type 0
AreUnended [] = Unit {0}
AreUnended (line ∷ lines) = (ends_record line ≡ false) × AreUnended lines

-- the part of the record under way, by its lines and their text
abbrev pub IsOpen : Option Part → List TextLine → List ℕ → Type 0
IsOpen None tail text = (tail ≡ []) × (text ≡ [])
IsOpen (Some part) tail text = (tail ≢ []) × IsPart part tail text

-- The lines of `count` records: some that are ended, and the lines of the one under way. `left` are not ended, whatever
-- lines are after these
pub record HoldsRecords (count : ℕ) (more : List TextLine) (left : ℕ) (part : Option Part) (text : List ℕ)
    (records : SdTexts) : Type 0 where
  pub done : List (Option (List TextLine))
  pub tail : List TextLine
  pub taken : AreTaken done records
  pub number : length done + left ≡ count
  pub few : count ≤ MOST_SD_RECORDS
  pub opens : IsOpen part tail text
  pub unended : AreUnended tail
  pub all : (after : List TextLine) → records_in count (more ++ after) ≡ done ++ records_in left (tail ++ after)
  pub ends : (after : List TextLine) → HaveEnds count (more ++ after) ↔ HaveEnds left after

-- these lines were taken of a request of this kind
abbrev pub Holds : Next → ℕ → Option Part → List TextLine → List ℕ → SdTexts → Type 0
Holds nexts.End left part lines text records = lines ≡ []
Holds nexts.Long left part lines text records = (size : ℕ) × (lines ≡ TooLong size ∷ [])
Holds nexts.Line left part lines text records = (line : List ℕ) × (lines ≡ Whole line ∷ []) × ¬ TakesLines line
Holds (nexts.WithMolfile read molfile) left part lines text records = (first : List ℕ) × (more : List TextLine)
    × (lines ≡ Whole first ∷ more) × StartsMolfile first × IsLine first (molfile_command read)
    × IsPart molfile more text
Holds (nexts.WithRecords count read) left part lines text records = (first word : List ℕ) × (more : List TextLine)
    × (lines ≡ Whole first ∷ more) × TakesRecords first word count × IsLine first (records_command count read)
    × HoldsRecords count more left part text records

abbrev pub HoldsLines : Taking → List TextLine → List ℕ → SdTexts → Type 0
HoldsLines taking lines text records = Holds taking.next taking.left taking.part lines text records

abbrev pub IsWholeBy : Bool → List TextLine → Type 0
IsWholeBy true lines = IsWhole lines
IsWholeBy false lines = ¬ IsWhole lines

-- a line was added to a request that was not whole; whether it is whole with it
abbrev pub AddsLine : Taking → Taking → List ℕ → List ℕ → SdTexts → SdTexts → TextLine → Bool → Type 0
AddsLine old new text text' records records' line whole = (lines : List TextLine) → HoldsLines old lines text records
    → ¬ IsWhole lines → HoldsLines new (lines ++ line ∷ []) text' records' × IsWholeBy whole (lines ++ line ∷ [])

-- a request began with a line; whether it is whole
abbrev pub Begins : Taking → List ℕ → SdTexts → List ℕ → Bool → Type 0
Begins new text records line whole =
    HoldsLines new (Whole line ∷ []) text records × IsWholeBy whole (Whole line ∷ [])

-- a line was added to the record under way
abbrev pub AddsRecordLine : Option Part → Option Part → List ℕ → List ℕ → TextLine → Type 0
AddsRecordLine part part' text text' line =
    (tail : List TextLine) → IsOpen part tail text → IsOpen part' (tail ++ line ∷ []) text'

-- the record under way was ended
abbrev pub EndsRecord : ℕ → Option Part → ℕ → Option Part → List ℕ → List ℕ → SdTexts → SdTexts → Type 0
EndsRecord left part left' part' text text' records records' =
    (count : ℕ) (more : List TextLine) (line : TextLine) → HoldsRecords count more left part text records → left ≢ 0
    → ends_record line ≡ true → HoldsRecords count (more ++ line ∷ []) left' part' text' records'

-- The request, by the text of its line, that of its molfile, and its records
abbrev pub IsNext : Next → Request → List ℕ → List ℕ → SdTexts → Type 0
IsNext nexts.End request line text records = ⊥
IsNext nexts.Long request line text records = IsLong request
IsNext nexts.Line request line text records = (request ≡ record { line = Whole line; more = [] }) × ¬ TakesLines line
IsNext (nexts.WithMolfile read molfile) request line text records =
    (first : List ℕ) × (request.line ≡ Whole first) × StartsMolfile first × IsLine first (molfile_command read)
    × IsPart molfile request.more text
IsNext (nexts.WithRecords count read) request line text records =
    (first part : List ℕ) × (request.line ≡ Whole first) × TakesRecords first part count
    × IsLine first (records_command count read) × AreTaken (records_in count request.more) records
