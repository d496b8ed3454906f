-- The answers of a call for the next line. For callers.
use Rattle.std.specs.Prelude.{◌≡◌, ◌≤◌, ◌+◌, ◌⊎◌, ℕ, IsTrue, Result, Ok, Err, List, [], ◌∷◌, ◌++◌, length}
use Rattle.io_edge.specs.Lines.{TextLine, Whole, TooLong, Reading, lines_left, HasWholeLine}
use Rattle.io_edge.specs.declared.lines.Line.{Line}
use Rattle.io_edge.specs.declared.lines.Line.TheVariants.{Text, Long, End}
use Rattle.io_edge.specs.declared.lines.LineFault.{LineFault}

-- the line that is answered, if one is
abbrev pub answered : Result Line LineFault → List ℕ → List TextLine
answered (Ok Text) text = Whole text ∷ []
answered (Ok (Long size)) text = TooLong size ∷ []
answered (Ok End) text = []
answered (Err f) text = []

-- Any input may follow the taken bytes, none if its end was met. The lines that were left are then the answered line
-- and the lines that are left now.
abbrev pub Answers : Result Line LineFault → Reading → List ℕ → Reading → Type 0
Answers answer old got new = (rest : List ℕ) → (IsTrue new.ended → rest ≡ []) → lines_left old (got ++ rest)
    ≡ answered answer new.text ++ lines_left new rest

-- these bytes were taken, and no more than the limit allows
pub record Counts (old : Reading) (got : List ℕ) (new : Reading) : Type 0 where
  pub taken : new.taken ≡ old.taken + length got
  pub limit : new.limit ≡ old.limit
  pub within : new.taken ≤ new.limit

-- as `Answers`, if the bytes left in the source are known: l before the call, and l' after it
abbrev pub Told : Result Line LineFault → Reading → Reading → List ℕ → List ℕ → Type 0
Told (Ok Text) old new l l' = lines_left old l ≡ Whole new.text ∷ lines_left new l'
Told (Ok (Long size)) old new l l' = lines_left old l ≡ TooLong size ∷ lines_left new l'
Told (Ok End) old new l l' = (lines_left old l ≡ []) × (l' ≡ [])
Told (Err f) old new l l' = lines_left new l' ≡ lines_left old l

-- P holds if a line is answered
abbrev pub OnLine : Result Line LineFault → Type 0 → Type 0
OnLine (Ok Text) P = P
OnLine (Ok (Long size)) P = P
OnLine (Ok End) P = Unit {0}
OnLine (Err f) P = Unit {0}

-- P holds if a text is answered
abbrev pub OnText : Result Line LineFault → Type 0 → Type 0
OnText (Ok Text) P = P
OnText (Ok (Long size)) P = Unit {0}
OnText (Ok End) P = Unit {0}
OnText (Err f) P = Unit {0}

-- P holds if no text is answered
abbrev pub OnNoText : Result Line LineFault → Type 0 → Type 0
OnNoText (Ok Text) P = Unit {0}
OnNoText (Ok (Long size)) P = P
OnNoText (Ok End) P = P
OnNoText (Err f) P = P

-- the next call can answer with no more bytes
abbrev pub CanAnswer : Reading → Type 0
CanAnswer reading = HasWholeLine reading ⊎ IsTrue reading.ended ⊎ (reading.taken ≡ reading.limit)
