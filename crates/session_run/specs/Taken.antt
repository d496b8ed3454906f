-- For private clauses alone: the parts that are taken and kept of the records of an SD file.
use Rattle.std.specs.Prelude.{◌≡◌, ◌≤◌, ◌<◌, ℕ, suc, ◌+◌, true, false, List, [], ◌∷◌, length, min, Option, None, Some, Result, IfSome}
use Rattle.std.specs.declared.alloc.Global.{Global}
use Rattle.std.specs.declared.vec.Vec.{Vec}
use Rattle.io_edge.specs.Lines.{TextLine}
use Rattle.mol_finish.specs.declared.fault.TextFault.{TextFault}
use Rattle.sd_read.specs.Records.{IsMade}
use Rattle.store_core.specs.Records.{Shared}
use Rattle.shell_lang.specs.Reply as line
use Rattle.session_acts.specs.Acts.{Act, AnswersBy, Lines, MayRegister, Refused, Say}
use Rattle.session_acts.specs.Cursors.{Calls}
use Rattle.session_acts.specs.Records.{bytes_in, counted}
use Rattle.session_acts.specs.Requests.{has_long, molfile_text}
use Rattle.session_acts.specs.declared.limits.TheConstants.{MOST_COUNTED, MOST_SD_BYTES}
use Rattle.session_run.specs.declared.records.Kept.{Kept}
use Rattle.session_run.specs.declared.records.Kept.TheVariants as keeps
use Rattle.session_run.specs.declared.records.Part.{Part}
use Rattle.session_run.specs.declared.records.Part.TheVariants as parts
use Rattle.session_run.specs.declared.records.SdTexts.{SdTexts}

-- the part that was taken of the lines of a record: their text, unless a line is too long, or the text is big or lost
abbrev pub IsPart : Part → List TextLine → List ℕ → Type 0
IsPart parts.Text lines text =
    (has_long lines ≡ false) × (text ≡ molfile_text lines) × (length (molfile_text lines) < MOST_COUNTED)
IsPart (parts.Long size) lines text =
    (has_long lines ≡ true) × (size ≡ min (bytes_in lines) MOST_COUNTED)
IsPart parts.Big lines text = (has_long lines ≡ false) × (MOST_COUNTED ≤ length (molfile_text lines))
IsPart (parts.Lost size) lines text =
    (has_long lines ≡ false) × (size ≡ length (molfile_text lines)) × (length (molfile_text lines) < MOST_COUNTED)

-- as `IsPart`, of a record, if a line of it was left
abbrev pub IsRecordPart : Option Part → Option (List TextLine) → List ℕ → Type 0
IsRecordPart None r text = r ≡ None
IsRecordPart (Some part) r text = (lines : List TextLine) × (r ≡ Some lines) × IsPart part lines text

-- the part of a record that is kept, if the texts up to and with it count `sum` bytes
abbrev pub IsKept : ℕ → Option (List TextLine) → Kept → List ℕ → Type 0
IsKept sum r keeps.Text text = (lines : List TextLine) × (r ≡ Some lines) × (sum ≤ MOST_SD_BYTES)
    × (has_long lines ≡ false) × (text ≡ molfile_text lines)
IsKept sum r (keeps.Refused refusal) text = (id : ℕ) → MayRegister id sum r (Say (Refused refusal))
IsKept sum r keeps.Lost text = Unit {0}

-- as `IsKept`, of records, the first of which may be in the lists, if the texts before count `sum` bytes
abbrev pub AreKept : ℕ → List (Option (List TextLine)) → List Kept → List (Vec ℕ Global) → Type 0
AreKept sum records [] texts = Unit {0}
AreKept sum [] (k ∷ ks) texts = ⊥
AreKept sum (r ∷ rs) (k ∷ ks) [] = ⊥
AreKept sum (r ∷ rs) (k ∷ ks) (t ∷ ts) = IsKept (sum + counted r) r k t.items × AreKept (sum + counted r) rs ks ts

-- the number of bytes that records count
abbrev pub counted_all : List (Option (List TextLine)) → ℕ
counted_all [] = 0
counted_all (r ∷ rs) = counted r + counted_all rs

-- these records were taken
pub record AreTaken (records : List (Option (List TextLine))) (texts : SdTexts) : Type 0 where
  pub are : AreKept 0 records texts.kept.items texts.texts.items
  pub total : texts.total ≡ counted_all records
  pub few : length texts.texts.items ≤ length records
  pub all : texts.full ≡ false → length texts.kept.items ≡ length records

-- the kept part of a record and the answer of making it, ready to be registered
abbrev pub IsReady : ℕ → ℕ → Option (List TextLine) → Option Kept → Option (Result Shared TextFault) → Type 0
IsReady id sum r None answer = Unit {0}
IsReady id sum r (Some keeps.Lost) answer = Unit {0}
IsReady id sum r (Some (keeps.Refused refusal)) answer = MayRegister id sum r (Say (Refused refusal))
IsReady id sum r (Some keeps.Text) answer =
    (lines : List TextLine) × (r ≡ Some lines) × (sum ≤ MOST_SD_BYTES) × (has_long lines ≡ false)
    × IfSome answer (λ a. IsMade id (molfile_text lines) a)

-- the answers of making the first of the texts
abbrev pub AreRead : ℕ → List (Vec ℕ Global) → List (Result Shared TextFault) → Type 0
AreRead id texts [] = Unit {0}
AreRead id [] (a ∷ answers) = ⊥
AreRead id (t ∷ texts) (a ∷ answers) = IsMade id t.items a × AreRead (suc id) texts answers

-- a record is registered under the identifier, or is refused, by one line, if the texts up to and with it count `sum`
-- bytes
abbrev pub Registers : ℕ → ℕ → Option (List TextLine) → Calls → Lines → Type 0
Registers id sum r calls lines = (act : Act) × (said : line.Reply) × MayRegister id sum r act
    × AnswersBy act calls said × (lines ≡ said ∷ [])
