-- The records of an SD file among the lines of a request, and the data items of a record. For callers.
use Rattle.std.specs.Prelude.{ℕ, zero, suc, ◌+◌, ◌-◌, List, [], ◌∷◌, length, drop, take, min, option_map, Option, None, Some, if◌then◌else◌}
use Rattle.io_edge.specs.Lines.{TextLine, Whole, TooLong}
use Rattle.mol_finish.specs.declared.fault.Format.{Format}
use Rattle.mol_finish.specs.declared.fault.Format.TheVariants.{Smiles, Molfile}
use Rattle.sd_read.specs.Items.{first_named, items_of}
use Rattle.session_acts.specs.Requests.{ends_record}
use Rattle.session_acts.specs.declared.limits.TheConstants.{MOST_COUNTED}

-- the lines of the first record, without its end
abbrev pub first_record : List TextLine → List TextLine
first_record [] = []
first_record (line ∷ lines) = if ends_record line then [] else line ∷ first_record lines

-- the lines after its end
abbrev pub behind_record : List TextLine → List TextLine
behind_record [] = []
behind_record (line ∷ lines) = if ends_record line then lines else behind_record lines

-- this number of records, in order; `None` for a record of which no line is left
abbrev pub records_in : ℕ → List TextLine → List (Option (List TextLine))
records_in zero lines = []
records_in (suc n) [] = None ∷ records_in n []
records_in (suc n) (line ∷ lines) =
    Some (first_record (line ∷ lines)) ∷ records_in n (behind_record (line ∷ lines))

-- the number of bytes of lines, each with its LF, whether they are too long or not
abbrev pub bytes_in : List TextLine → ℕ
bytes_in [] = 0
bytes_in (Whole line ∷ lines) = length line + 1 + bytes_in lines
bytes_in (TooLong size ∷ lines) = size + 1 + bytes_in lines

-- the number of bytes that a record counts: those of its lines, at most `MOST_COUNTED`
abbrev pub counted : Option (List TextLine) → ℕ
counted None = 0
counted (Some lines) = min (bytes_in lines) MOST_COUNTED

-- the data of the first item of a name in a record's text
abbrev pub data_of : Format → List ℕ → List ℕ → Option (List ℕ)
data_of Smiles text name = None
data_of Molfile text name =
    option_map (λ place. take (place.1 - place.0) (drop place.0 text)) (first_named name (items_of text))
