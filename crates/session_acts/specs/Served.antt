-- For callers: the output of a session for a script, and the calls that it makes of its service: a dialogue in a
-- session's manner that begins with no cursor and no watch, by pages of a size.
use Rattle.std.specs.Prelude.{ℕ, List, Option}
use Rattle.dialogue.specs.Dialogue as dialogue
use Rattle.dialogue.specs.Talked as talked
use Rattle.dialogue.specs.declared.end.EndStatus.{EndStatus}
use Rattle.io_edge.specs.Lines.{TextLine}
use Rattle.session_acts.specs.Cursors.{Calls}
use Rattle.session_acts.specs.Talking.{Kept, begun, sessions}
pub use Rattle.dialogue.specs.Dialogue.{IsPrefixOf}
pub use Rattle.dialogue.specs.Talked.{EndsAs, IsInputFault, TakesAll, TakesAtMost, TakesExactly, Writes, WritesForTaken}

abbrev pub IsDialogue : ℕ → List TextLine → List TextLine → Calls → List ℕ → Kept → Type 0
IsDialogue size lines left calls text kept =
    dialogue.IsDialogue sessions (begun size) lines left calls text kept

abbrev pub IsTranscript : ℕ → List TextLine → Calls → List ℕ → Type 0
IsTranscript size lines calls text = talked.IsTranscript sessions (begun size) lines calls text

abbrev pub IsWholePrefix : ℕ → List TextLine → Calls → List ℕ → Type 0
IsWholePrefix size lines calls text = talked.IsWholePrefix sessions (begun size) lines calls text

abbrev pub IsTranscriptPrefix : ℕ → List TextLine → Calls → List ℕ → Type 0
IsTranscriptPrefix size lines calls text = talked.IsTranscriptPrefix sessions (begun size) lines calls text

abbrev pub WornAt : ℕ → List TextLine → Calls → List ℕ → Type 0
WornAt size lines calls text = talked.WornAt sessions (begun size) lines calls text

abbrev pub IsAllOfTaken : ℕ → Calls → List ℕ → List ℕ → Type 0
IsAllOfTaken size calls got text = talked.IsAllOfTaken sessions (begun size) calls got text

abbrev pub IsServed : EndStatus → ℕ → List TextLine → Calls → List ℕ → Type 0
IsServed end size lines calls text = talked.IsServed sessions end (begun size) lines calls text

abbrev pub IsServedBy : EndStatus → ℕ → Option (List ℕ) → Option (List ℕ) → Option (List ℕ) → Option (List ℕ) → Calls
    → Type 0
IsServedBy end size before after put put' calls =
    talked.IsServedBy sessions end (begun size) before after put put' calls
