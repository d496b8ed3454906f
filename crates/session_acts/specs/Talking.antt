-- For callers: a session's manner of talking.
use Rattle.std.specs.Prelude.{◌≡◌, ℕ}
use Rattle.dialogue.specs.Dialogue as dialogue
use Rattle.dialogue.specs.Manner.{Manner}
use Rattle.shell_lang.specs.Reply.{text_of}
use Rattle.store_machine.specs.declared.machine.Event.{Event}
use Rattle.store_machine.specs.declared.machine.Reply.{Reply}
use Rattle.session_acts.specs.Acts.{Lines, RequestAnswer}
use Rattle.session_acts.specs.Cursors.{unpins}
use Rattle.session_acts.specs.Requests.{IsWhole, request_of}
use Rattle.session_acts.specs.Watching.{Standing, nothing_kept}

-- the most records of a page, which stays, and the cursors and watches
pub record Kept : Type 0 where
  pub page : ℕ
  pub standing : Standing

-- at the beginning
abbrev pub begun : ℕ → Kept
begun page = record { page = page; standing = nothing_kept }

-- A call is one of the service, with its reply. A reply has lines; if memory runs out for these, all calls were made.
-- At the end the pins of the open cursors are given back
abbrev pub sessions : Manner
sessions = record {
  Kept = Kept;
  Call = Event × Reply;
  Reply = Lines;
  text_of = text_of;
  IsWhole = IsWhole;
  Answers = λ kept lines calls said kept'.
      RequestAnswer kept.page kept.standing (request_of lines) calls said kept'.standing × (kept'.page ≡ kept.page);
  Cuts = λ kept lines calls kept'. (said : Lines)
      × RequestAnswer kept.page kept.standing (request_of lines) calls said kept'.standing × (kept'.page ≡ kept.page);
  closing = λ kept. unpins kept.standing.cursors;
}

-- a request, the calls that answered it, and the lines of its reply
abbrev pub Exchange : Type 0
Exchange = dialogue.Exchange (Event × Reply) Lines
