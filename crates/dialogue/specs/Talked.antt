-- For callers: the output of a dialogue for a script, if the contents of the source and the sink are known, and how it
-- ended.
use Rattle.std.specs.Prelude.{◌≡◌, ◌⊎◌, ◌≤◌, ℕ, List, [], ◌++◌, length, Option, Some, IfSome}
use Rattle.io_edge.specs.Faults.{Rose}
use Rattle.io_edge.specs.Lines.{TextLine, lines_of, whole_lines}
use Rattle.io_edge.specs.declared.sinks.Sink as sinks
use Rattle.io_edge.specs.declared.sources.Source as sources
use Rattle.dialogue.specs.Manner.{Manner}
use Rattle.dialogue.specs.Dialogue.{AreExchanged, AreWhole, Exchange, IsBroken, IsCut, IsDialogue, IsPart, IsPrefixOf, IsPut, Stops, calls_in, lines_in, text_in}
use Rattle.dialogue.specs.declared.end.EndStatus.{EndStatus}
use Rattle.dialogue.specs.declared.end.EndStatus.TheVariants.{Done, SourceFault, SinkFault, InputTooLong, Worn}

-- a text was appended to the output, and P holds of it
abbrev pub Writes : Option (List ℕ) → Option (List ℕ) → (List ℕ → Type 0) → Type 0
Writes before after P = IfSome before (λ old. (text : List ℕ) × (after ≡ Some (old ++ text)) × P text)

-- a text was appended to the output, and P holds of the bytes that were taken and the text
abbrev pub WritesForTaken : Option (List ℕ) → Option (List ℕ) → Option (List ℕ) → Option (List ℕ)
    → (List ℕ → List ℕ → Type 0) → Type 0
WritesForTaken before after put put' P = IfSome before
    (λ old. (got rest : List ℕ) × (old ≡ got ++ rest) × (after ≡ Some rest) × Writes put put' (P got))

-- n bytes were taken, if the source's content is known
abbrev pub TakesExactly : Option (List ℕ) → Option (List ℕ) → ℕ → Type 0
TakesExactly before after n =
    IfSome before (λ old. (got rest : List ℕ) × (old ≡ got ++ rest) × (after ≡ Some rest) × (length got ≡ n))

-- at most n bytes were taken
abbrev pub TakesAtMost : Option (List ℕ) → Option (List ℕ) → ℕ → Type 0
TakesAtMost before after n =
    IfSome before (λ old. (got rest : List ℕ) × (old ≡ got ++ rest) × (after ≡ Some rest) × (length got ≤ n))

-- all bytes were taken
abbrev pub TakesAll : Option (List ℕ) → Option (List ℕ) → Type 0
TakesAll before after = IfSome before (λ old. after ≡ Some [])

-- the source failed, or its bytes are too many
abbrev pub IsInputFault : EndStatus → Type 0
IsInputFault SourceFault = Unit {0}
IsInputFault InputTooLong = Unit {0}
IsInputFault _ = ⊥

-- A beginning of a dialogue: requests that were answered whole, and then perhaps a part of the answer to the next one
abbrev pub Begins : (m : Manner) → m.Kept → List TextLine → List m.Call → m.Kept → List ℕ → Type 0
Begins m start lines calls kept text = ((left : List TextLine) × IsDialogue m start lines left calls text kept)
    ⊎ Stops m start lines calls text
    (λ between left its part. IsPut m between left its part kept ⊎ IsCut m between left its part kept)

-- All whole requests in the bytes that were taken were answered, and nothing else was called or written. A line counts
-- once its LF was taken
pub record AnswersTaken (m : Manner) (start : m.Kept) (calls : List m.Call) (kept : m.Kept) (got text : List ℕ)
    : Type 0 where
  pub exchanges : List (Exchange m.Call m.Reply)
  pub left : List TextLine
  pub lines : whole_lines got ≡ lines_in m exchanges ++ left
  pub whole : AreWhole m exchanges
  pub part : IsPart m left
  pub exchanged : AreExchanged m start exchanges kept
  pub made : calls ≡ calls_in m exchanges
  pub said : text ≡ text_in m exchanges

-- the first of these calls have P with what is kept after them, and the others give that back
abbrev pub GivesBack : (m : Manner) → List m.Call → (List m.Call → m.Kept → Type 0) → Type 0
GivesBack m calls P = (own : List m.Call) × (kept : m.Kept) × P own kept × (calls ≡ own ++ m.closing kept)

-- the text is the replies to the requests that are all the lines
abbrev pub IsTranscript : (m : Manner) → m.Kept → List TextLine → List m.Call → List ℕ → Type 0
IsTranscript m start lines calls text = GivesBack m calls (λ own kept. IsDialogue m start lines [] own text kept)

-- the first requests were answered whole, and nothing of the next one was called or written
abbrev pub IsWholePrefix : (m : Manner) → m.Kept → List TextLine → List m.Call → List ℕ → Type 0
IsWholePrefix m start lines calls text =
    GivesBack m calls (λ own kept. (left : List TextLine) × IsDialogue m start lines left own text kept)

-- a dialogue that stops early
abbrev pub IsTranscriptPrefix : (m : Manner) → m.Kept → List TextLine → List m.Call → List ℕ → Type 0
IsTranscriptPrefix m start lines calls text = GivesBack m calls (λ own kept. Begins m start lines own kept text)

-- The peer was found worn. In the answer to a request: the first of its calls were made, nothing of its reply was put,
-- and nothing was given back. Or while what is kept was given back: the first of the calls were made. After the call
-- that was not answered nothing was called or put
pub data WornAt (m : Manner) (start : m.Kept) (lines : List TextLine) (calls : List m.Call) (text : List ℕ) : Type 0
  where
    InAnswer : (stops : Stops m start lines calls text (IsBroken m)) → WornAt m start lines calls text
    InClosing : (own part : List m.Call) (kept : m.Kept) (begins : Begins m start lines own kept text)
        (first : IsPrefixOf part (m.closing kept)) (made : calls ≡ own ++ part) → WornAt m start lines calls text

-- The service of a script, by how the dialogue ended: all of it, or a beginning. If the source failed or its bytes are
-- too many, the requests of that beginning were answered whole
abbrev pub IsServed : (m : Manner) → EndStatus → m.Kept → List TextLine → List m.Call → List ℕ → Type 0
IsServed m Done start lines calls text = IsTranscript m start lines calls text
IsServed m Worn start lines calls text = WornAt m start lines calls text
IsServed m SourceFault start lines calls text = IsWholePrefix m start lines calls text
IsServed m InputTooLong start lines calls text = IsWholePrefix m start lines calls text
IsServed m _ start lines calls text = IsTranscriptPrefix m start lines calls text

-- as `AnswersTaken`, and what is kept was given back
abbrev pub IsAllOfTaken : (m : Manner) → m.Kept → List m.Call → List ℕ → List ℕ → Type 0
IsAllOfTaken m start calls got text = GivesBack m calls (λ own kept. AnswersTaken m start own kept got text)

-- A source's bytes were served by these calls. If the source failed, or its bytes are too many, exactly the whole
-- requests in the bytes that were taken were answered
pub record IsServedBy (m : Manner) (end : EndStatus) (start : m.Kept) (before after put put' : Option (List ℕ))
    (calls : List m.Call) : Type 0 where
  pub script : IfSome before (λ bytes. Writes put put' (IsServed m end start (lines_of bytes) calls))
  pub taken : IsInputFault end → WritesForTaken before after put put' (IsAllOfTaken m start calls)

-- The bounds of an end on the source and the sink: a fault is reported only if one was counted. All bytes were taken if
-- it is done, exactly the limit if the input is too long, and never more
pub record EndsAs {S K : Type 0} (source : sources.Ghosts S) (sink : sinks.Ghosts K) (end : EndStatus) (limit : ℕ)
    (s s' : S) (k k' : K) : Type 0 where
  pub source_fault : end ≡ SourceFault → Rose (source.faults s) (source.faults s')
  pub sink_fault : end ≡ SinkFault → Rose (sink.faults k) (sink.faults k')
  pub done : end ≡ Done → TakesAll (source.left s) (source.left s')
  pub within : TakesAtMost (source.left s) (source.left s') limit
  pub too_long : end ≡ InputTooLong → TakesExactly (source.left s) (source.left s') limit
