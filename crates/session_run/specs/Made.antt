-- For private clauses alone: the calls that a part of an answer makes, and its other effects.
use Rattle.std.specs.Prelude.{◌≡◌, ◌⊎◌, ℕ, Bool, true, List, [], ◌∷◌, ◌++◌, Result, Ok, Err}
use Rattle.shell_lang.specs.Reply as line
use Rattle.shell_lang.specs.Reply.{text_of, reply_of}
use Rattle.shell_lang.specs.declared.reply.Reply as written
use Rattle.shell_lang.specs.declared.reply.Reply.TheVariants as replies
use Rattle.store_core.specs.Calls.{NotRaised}
use Rattle.store_core.specs.declared.service.Service as meaning
use Rattle.store_machine.specs.declared.machine.Event.{Event}
use Rattle.session_acts.specs.Acts.{IsLineOf, Lines}
use Rattle.session_acts.specs.Cursors.{Calls, Makes}
use Rattle.session_acts.specs.Pins.{MovePins}
use Rattle.dialogue.specs.Dialogue.{IsPrefixOf}
use Rattle.dialogue.specs.declared.end.Stop.{Stop}
use Rattle.dialogue.specs.declared.end.Stop.TheVariants as stops

-- from one value of a service to a later one these calls were made, and they alone moved pins
pub record Uses {S : Type 0} (of : meaning.Ghosts S) (old new : S) (calls : Calls) : Type 0 where
  pub makes : Makes of.at of.owns of.stretch old new calls
  pub pins : MovePins calls (of.holds old) (of.holds new)
  pub bounds : NotRaised (of.bounds old) (of.bounds new)

-- calls were made and `after` is left, so that these lines are due
pub record Did {X : Type 0} (Made : Calls → Type 0) (Is : Calls → Lines → X → Type 0) (after : X) : Type 0 where
  pub calls : Calls
  pub lines : Lines
  pub made : Made calls
  pub is : Is calls lines after

-- calls were made, and then the service was worn: more would have followed
pub record WornIn {X : Type 0} (Made : Calls → Type 0) (IsWorn : Type 0) (Is : Calls → Lines → X → Type 0)
    : Type 0 where
  pub calls : Calls
  pub whole : Calls
  pub lines : Lines
  pub after : X
  pub made : Made calls
  pub begins : IsPrefixOf calls whole
  pub is : Is whole lines after
  pub worn : IsWorn

-- An answer after a text. Its lines were written; or no memory is left for them, and the calls were made all the same.
-- Or the service was worn
pub data Answered {X : Type 0} (Made : Calls → Type 0) (IsWorn : Type 0) (Is : Calls → Lines → X → Type 0)
    (out out' : List ℕ) (after : X) : Result (Unit {0}) Stop → Type 0 where
  Said : (u : Unit {0}) (did : Did Made Is after) (said : out' ≡ out ++ text_of did.lines)
      → Answered Made IsWorn Is out out' after (Ok u)
  Unsaid : (did : Did Made Is after) → Answered Made IsWorn Is out out' after (Err stops.NoMemory)
  Broken : (worn : WornIn Made IsWorn Is) → Answered Made IsWorn Is out out' after (Err stops.Worn)

-- as `Answered`, by the calls of a service
abbrev pub AnsweredBy : {S X : Type 0} → meaning.Ghosts S → S → S → (Calls → Lines → X → Type 0) → List ℕ → List ℕ
    → X → Result (Unit {0}) Stop → Type 0
AnsweredBy of old new Is out out' after result = Answered (Uses of old new) (of.worn new) Is out out' after result

-- the line was written after a text, unless no memory is left
abbrev pub Tells : line.Reply → List ℕ → List ℕ → Result (Unit {0}) Stop → Type 0
Tells said out out' (Ok _) = out' ≡ out ++ line.reply_line said
Tells said out out' (Err stops.NoMemory) = Unit {0}
Tells said out out' (Err stops.Worn) = ⊥

-- all of these lines were written, or one that says that memory ran out
abbrev pub TellsAll : Lines → List ℕ → List ℕ → Result (Unit {0}) Stop → Type 0
TellsAll lines out out' result =
    ((result ≡ Ok tt) × (out' ≡ out ++ text_of lines)) ⊎ Tells line.MemoryFault out out' result

-- a line was written, if the service gave one
abbrev pub Writes : Result written.Reply Stop → List ℕ → List ℕ → Result (Unit {0}) Stop → Type 0
Writes (Ok reply) out out' result = Tells (reply_of reply) out out' result
Writes (Err stop) out out' result = result ≡ Err stop

-- in place of a line one that says that memory ran out
abbrev pub without_room : Result written.Reply Stop → Result written.Reply Stop
without_room (Ok reply) = Ok replies.MemoryFault
without_room (Err stop) = Err stop

-- the calls are one call of this event, and its reply gives the line
abbrev pub IsLineIn : Event → Calls → line.Reply → Type 0
IsLineIn event [] said = ⊥
IsLineIn event (c ∷ cs) said = (c.0 ≡ event) × IsLineOf event c.1 said × (cs ≡ [])

-- the line that the reply to a call gives; no line if the service is worn
abbrev pub Gives : Event → Calls → Bool → Result written.Reply Stop → Type 0
Gives event calls worn (Ok reply) = IsLineIn event calls (reply_of reply)
Gives event calls worn (Err stops.Worn) = (calls ≡ []) × (worn ≡ true)
Gives event calls worn (Err stops.NoMemory) = ⊥
