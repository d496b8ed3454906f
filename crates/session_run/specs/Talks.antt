-- For private clauses alone: a session as what talks, with its service.
use Rattle.std.specs.Prelude.{◌≡◌, ℕ, List, Result}
use Rattle.dialogue.specs.Answers.{Answered, TalkModel}
use Rattle.dialogue.specs.Dialogue.{IsAsked}
use Rattle.dialogue.specs.declared.end.Stop.{Stop}
use Rattle.io_edge.specs.Lines.{TextLine}
use Rattle.session_acts.specs.Pins.{AreHeld}
use Rattle.session_acts.specs.Talking.{Kept, sessions}
use Rattle.store_core.specs.declared.service.Service as meaning
use Rattle.session_run.specs.Made.{Uses}
use Rattle.session_run.specs.Opened.{opened}
use Rattle.session_run.specs.Responds.{IsReady}
use Rattle.session_run.specs.Standings.{standing_of}
use Rattle.session_run.specs.Underway.{HoldsLines}
use Rattle.session_run.specs.Walks.{cursors_of}
use Rattle.session_run.specs.declared.respond.Responder.{Responder}
use Rattle.session_run.specs.declared.talker.Talker.{Talker}

abbrev pub kept_of : Responder → Kept
kept_of r = record { page = r.cursors.settings.page; standing = standing_of r }

-- the talker keeps this, and took these lines of the request under way
pub record IsTalking {S : Type 0} (of : meaning.Ghosts S) (talker : Talker) (service : S) (kept : Kept)
    (lines : List TextLine) : Type 0 where
  pub kept_is : kept ≡ kept_of talker.responder
  pub ready : IsReady of service talker.responder.cursors
  pub holds : HoldsLines talker.taking lines talker.responder.molfile.items talker.responder.records

-- it keeps this, and the pins of its cursors are held
pub record CanClose {S : Type 0} (of : meaning.Ghosts S) (talker : Talker) (service : S) (kept : Kept) : Type 0 where
  pub cursors_are : kept.standing.cursors ≡ cursors_of (opened talker.responder.cursors)
  pub held : AreHeld (of.holds service) kept.standing.cursors

-- the request of the talker is asked, and the talker can answer it
abbrev pub CanAnswer : {S : Type 0} → meaning.Ghosts S → Talker → S → List ℕ → Type 0
CanAnswer of talker service line = (kept : Kept) × (lines : List TextLine) × IsTalking of talker service kept lines
    × IsAsked sessions lines line

abbrev pub talks : {S : Type 0} → meaning.Ghosts S → TalkModel Talker S
talks {S = S} of = record {
  manner = sessions;
  IsReady = λ talker service kept lines n. IsTalking of talker service kept lines;
  CanClose = CanClose of;
  Made = Uses of;
  IsWorn = of.worn;
  said = λ talker. talker.responder.out.items;
}

-- the request that is asked was answered
abbrev pub AnswersAsked : {S : Type 0} → meaning.Ghosts S → Result (Unit {0}) Stop → Talker → Talker → S → S → List ℕ
    → Type 0
AnswersAsked of result old new service service' line = (kept : Kept) (lines : List TextLine) (n : ℕ)
    → IsTalking of old service kept lines → IsAsked sessions lines line
    → Answered (talks of) result new service service' kept lines n
