-- For private clauses alone: how far a source was read, line by line, and requests that are taken of it.
use Rattle.std.specs.Prelude.{◌≡◌, ◌≢◌, ◌≤◌, ◌<◌, ℕ, Bool, None, IsTrue, List, [], ◌∷◌, ◌++◌, length, Option, Some, Result, Ok, Err, false}
use Rattle.io_edge.specs.Lines.{AwaitsBytes, IsFinished, Reading, TextLine, done_bytes, lines_left, lines_of}
use Rattle.io_edge.specs.declared.lines.LineFault.{LineFault}
use Rattle.dialogue.specs.Manner.{Manner}
use Rattle.dialogue.specs.Dialogue.{EndsWith, IsPart, IsRequest, IsTextOf}
use Rattle.dialogue.specs.Answers.{Adds, TalkModel}
use Rattle.dialogue.specs.declared.run.Taken.{Taken}
use Rattle.dialogue.specs.declared.run.Taken.TheVariants.{Request, Last, Nothing}

-- nothing was read
pub record IsFresh (reading : Reading) : Type 0 where
  pub none : reading.pending ≡ []
  pub short : reading.dropped ≡ 0
  pub untaken : reading.taken ≡ 0
  pub unended : reading.ended ≡ false

-- these lines were read of the input, however it goes on
pub record Told (lines : List TextLine) (input : List ℕ) (now : Option (List ℕ)) (reading : Reading) : Type 0 where
  pub got : List ℕ
  pub left : List ℕ
  pub left_is : now ≡ Some left
  pub split : input ≡ got ++ left
  pub number : length got ≡ reading.taken
  pub begin : (rest : List ℕ) → (IsTrue reading.ended → rest ≡ [])
      → lines_of (got ++ rest) ≡ lines ++ lines_left reading rest
  pub ended : IsTrue reading.ended → left ≡ []

-- these lines were read of a source, where it tells its bytes
pub record HasRead (limit : ℕ) (before now : Option (List ℕ)) (reading : Reading) (lines : List TextLine) : Type 0 where
  pub told : (input : List ℕ) → before ≡ Some input → Told lines input now reading
  pub limit_is : reading.limit ≡ limit
  pub within : reading.taken ≤ reading.limit

-- these lines more were read
abbrev pub ReadsOn : Option (List ℕ) → Option (List ℕ) → Reading → Reading → List TextLine → Type 0
ReadsOn before now old new lines = (limit : ℕ) (first : Option (List ℕ)) (read : List TextLine)
    → HasRead limit first before old read → HasRead limit first now new (read ++ lines)

-- what a call for the next line read, by its answer
abbrev pub ReadsLine : {T P : Type 0} → TalkModel T P → T → T → Option (List ℕ) → Option (List ℕ) → Reading → Reading
    → Result (Option Bool) LineFault → Type 0
ReadsLine t talker talker' before now old new (Ok (Some whole)) =
    (line : TextLine) × ReadsOn before now old new (line ∷ []) × Adds t talker talker' line whole
    × (done_bytes old < done_bytes new) × IsTextOf line new.text
ReadsLine t talker talker' before now old new (Ok None) =
    ReadsOn before now old new [] × (talker' ≡ talker) × IsFinished new
ReadsLine t talker talker' before now old new (Err fault) =
    ReadsOn before now old new [] × (talker' ≡ talker) × AwaitsBytes new

-- what was taken, by the answer
abbrev pub IsTaken : Manner → Result Taken LineFault → Reading → Reading → List TextLine → Type 0
IsTaken m (Ok Request) old new lines =
    IsRequest m lines × (done_bytes old < done_bytes new) × EndsWith lines new.text
IsTaken m (Ok Last) old new lines =
    IsPart m lines × (lines ≢ []) × IsFinished new × (done_bytes old < done_bytes new)
IsTaken m (Ok Nothing) old new lines = (lines ≡ []) × IsFinished new
IsTaken m (Err fault) old new lines = IsPart m lines × AwaitsBytes new

-- lines were taken of a source
pub record Takes {T P : Type 0} (t : TalkModel T P) (talker talker' : T) (before now : Option (List ℕ))
    (old new : Reading) (answer : Result Taken LineFault) : Type 0 where
  pub lines : List TextLine
  pub is : IsTaken t.manner answer old new lines
  pub ready : (p : P) (kept : t.manner.Kept) (n : ℕ) → t.IsReady talker p kept [] n → t.IsReady talker' p kept lines n
  pub reads : ReadsOn before now old new lines
