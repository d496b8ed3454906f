-- A session as what talks: lines that are added, answers, and the pins at the end.
use Rattle.std.proofs.Common.{◌≡◌, ◌∙◌, ◌++◌, ap, Bool, Err, false, inl, inr, List, [], ◌∷◌, Ok, refl, Result, subst, sym, true, ℕ}
use Rattle.std.proofs.Common.{append-nil, append_assoc}
use Rattle.dialogue.specs.Answers.{Adds, Answered, Closes}
use Rattle.dialogue.specs.Dialogue.{AreExchanged, IsKept, IsPart, NoneWhole, calls_in}
use Rattle.dialogue.specs.Talked.{GivesBack}
use Rattle.dialogue.specs.declared.end.Stop.{Stop}
use Rattle.dialogue.specs.declared.end.Stop.TheVariants as stops
use Rattle.io_edge.specs.Lines.{TextLine}
use Rattle.store_core.specs.Calls.{SameHeld}
use Rattle.store_core.specs.declared.service.Service as meaning
use Rattle.session_acts.specs.Acts.{RequestAnswer}
use Rattle.session_acts.specs.Cursors.{Calls, Cursor, unpins}
use Rattle.session_acts.specs.Pins.{AreApart, AreHeld, HeldAfter, SameOthers}
use Rattle.session_acts.specs.Requests.{IsWhole, request_of}
use Rattle.session_acts.specs.Talking.{Exchange, Kept, begun, sessions}
use Rattle.session_acts.proofs.ActPins.{all_held, all_others}
use Rattle.session_acts.proofs.Held.{after-append, apart-parts, held-same, same_held, same_others, same_others-more}
use Rattle.session_run.specs.Made.{AnsweredBy, Broken, Did, Said, Unsaid, Uses}
use Rattle.session_run.specs.Opened.{opened}
use Rattle.session_run.specs.Responds.{IsFit}
use Rattle.session_run.specs.Searched.{ReturnsAll}
use Rattle.session_run.specs.Servable.{IsServable}
use Rattle.session_run.specs.Standings.{standing_of}
use Rattle.session_run.specs.Talks.{CanClose, IsTalking, kept_of, talks}
use Rattle.session_run.specs.Underway.{AddsLine, HoldsLines, IsWholeBy}
use Rattle.session_run.specs.Walks.{cursors_of}
use Rattle.session_run.specs.declared.settings.Settings.{Settings}
use Rattle.session_run.specs.declared.talker.Talker.{Talker}
use Rattle.session_run.proofs.Opening.{fit_new, unpins_others}

-- no first lines are a whole request, nor all
none_whole : (before lines : List TextLine) → ¬ IsWhole before → NoneWhole sessions before lines
    → ¬ IsWhole (before ++ lines)
none_whole before [] h none = subst (λ (l : List TextLine). ¬ IsWhole l) (sym (append-nil before)) h
none_whole before (x ∷ lines) h none = subst (λ (l : List TextLine). ¬ IsWhole l) (append_assoc before (x ∷ []) lines)
    (none_whole (before ++ x ∷ []) lines none.0 none.1)

pub part_open : (lines : List TextLine) → IsPart sessions lines → ¬ IsWhole lines
part_open lines part = none_whole [] lines (λ h. h) part

whole_of : (lines : List TextLine) (whole : Bool) → IsWholeBy whole lines → whole ≡ true → IsWhole lines
whole_of lines true h e = h
whole_of lines false h e = cc

open_of : (lines : List TextLine) (whole : Bool) → IsWholeBy whole lines → whole ≡ false → ¬ IsWhole lines
open_of lines true h e = cc
open_of lines false h e = h

-- a line was added
pub adds : {S : Type 0} (of : meaning.Ghosts S) (old new : Talker) (line : TextLine) (whole : Bool)
    → new.responder.cursors ≡ old.responder.cursors → kept_of new.responder ≡ kept_of old.responder
    → AddsLine old.taking new.taking old.responder.molfile.items new.responder.molfile.items old.responder.records
    new.responder.records line whole → Adds (talks of) old new line whole
adds of old new line whole same kept_same h = record {
  ready = λ p kept lines n r part. record {
    kept_is = r.kept_is ∙ sym kept_same;
    ready = rw same r.ready;
    holds = (h lines r.holds (part_open lines part)).0;
  };
  is_whole = λ p kept lines n r part e.
      whole_of (lines ++ line ∷ []) whole (h lines r.holds (part_open lines part)).1 e;
  is_part = λ p kept lines n r part e.
      open_of (lines ++ line ∷ []) whole (h lines r.holds (part_open lines part)).1 e;
}

-- an answer
module _ {S : Type 0} {of : meaning.Ghosts S} {old : Talker} (new : Talker) {service : S} (service' : S) {kept : Kept}
    (lines : List TextLine) (n : ℕ) (h : IsTalking of old service kept lines) (fit : IsFit new.responder.cursors)
    (settings : new.responder.cursors.settings ≡ old.responder.cursors.settings)
    (fresh : HoldsLines new.taking [] new.responder.molfile.items new.responder.records) where
  page : ℕ
  page = old.responder.cursors.settings.page

  abbrev Did_it : Type 0
  Did_it = Did (Uses of service service')
      (RequestAnswer old.responder.cursors.settings.page (standing_of old.responder) (request_of lines)) (standing_of new.responder)

  answers : (d : Did_it) → sessions.Answers kept lines d.calls d.lines (kept_of new.responder)
  answers d = subst (λ (k : Kept). sessions.Answers k lines d.calls d.lines (kept_of new.responder)) (sym h.kept_is)
      (d.is, ap (λ (s : Settings). s.page) settings)

  held : Did_it → AreHeld (of.holds service') (cursors_of (opened new.responder.cursors))
  held d = held-same (HeldAfter (of.holds service) d.calls) (of.holds service') (standing_of new.responder).cursors
      d.made.pins.now (all_held (of.holds service) d.is.does d.made.pins.apart h.ready.held)

  pub answered : (result : Result (Unit {0}) Stop) → AnsweredBy of service service'
      (RequestAnswer old.responder.cursors.settings.page (standing_of old.responder) (request_of lines)) []
      new.responder.out.items (standing_of new.responder) result
      → Answered (talks of) result new service service' kept lines n
  answered (Ok u) (Said v d said) = record {
    calls = d.calls;
    reply = d.lines;
    kept' = kept_of new.responder;
    made = d.made;
    answers = answers d;
    said = said;
    ready = record { kept_is = refl; ready = record { fit = fit; held = held d }; holds = fresh };
  }
  answered (Err stops.NoMemory) (Unsaid d) = record {
    calls = d.calls;
    kept' = kept_of new.responder;
    made = d.made;
    cuts = (d.lines, (answers d).0, (answers d).1);
    closable = record { cursors_are = refl; held = held d };
  }
  answered (Err stops.Worn) (Broken w) = record {
    calls = w.calls;
    whole = w.whole;
    reply = w.lines;
    after = record { page = old.responder.cursors.settings.page; standing = w.after };
    made = w.made;
    first = w.begins;
    answers = subst (λ (k : Kept). sessions.Answers k lines w.whole w.lines
        (record { page = old.responder.cursors.settings.page; standing = w.after })) (sym h.kept_is) (w.is, refl);
    worn = w.worn;
  }

-- what is kept was given back
pub closes : {S : Type 0} (of : meaning.Ghosts S) (talker : Talker) (service service' : S) (kept : Kept)
    → CanClose of talker service kept → (result : Result (Unit {0}) Stop)
    → ReturnsAll (Uses of service service') (of.worn service') (cursors_of (opened talker.responder.cursors)) result
    → Closes (talks of) result service service' kept
closes of talker service service' kept can (Ok u) r =
    subst (λ (l : List Cursor). Uses of service service' (unpins l)) (sym can.cursors_are) r
closes of talker service service' kept can (Err stops.NoMemory) r = r
closes of talker service service' kept can (Err stops.Worn) r =
    subst (λ (l : List Cursor). Closes (talks of) (Err stops.Worn) service service'
    (record { page = kept.page; standing = record { cursors = l; watches = kept.standing.watches } })) (sym can.cursors_are)
    (r.0, r.2, r.1, r.3)

-- the pins of others, through exchanges
exchanged_others : (held : ℕ → ℕ → Type 0) (k k' : Kept) (xs : List Exchange) → AreExchanged sessions k xs k'
    → AreApart held (calls_in sessions xs)
    → SameOthers held k.standing.cursors (HeldAfter held (calls_in sessions xs)) k'.standing.cursors
exchanged_others held k k' [] h apart =
    subst (λ (c : Kept). SameOthers held k.standing.cursors held c.standing.cursors) (sym h)
    (same_others held held k.standing.cursors (same_held held))
exchanged_others held k k' (x ∷ xs) h apart =
    let more = calls_in sessions xs in
    let parts = apart-parts held x.calls more apart in
    subst (λ (f : ℕ → ℕ → Type 0). SameOthers held k.standing.cursors f k'.standing.cursors)
    (sym (after-append held x.calls more))
    (same_others-more held (HeldAfter held x.calls) (HeldAfter (HeldAfter held x.calls) more) k.standing.cursors
    h.0.standing.cursors k'.standing.cursors (all_others held h.1.0.does parts.0)
    (exchanged_others (HeldAfter held x.calls) h.0 k' xs h.2 parts.1))

kept_others : (held : ℕ → ℕ → Type 0) (k k' : Kept) (calls : Calls) → IsKept sessions k calls k' → AreApart held calls
    → SameOthers held k.standing.cursors (HeldAfter held calls) k'.standing.cursors
kept_others held k k' calls h apart =
    let first = calls_in sessions h.exchanges in
    let then = HeldAfter held first in
    let parts = apart-parts held first h.its (subst (AreApart held) h.made apart) in
    subst (λ (c : Calls). SameOthers held k.standing.cursors (HeldAfter held c) k'.standing.cursors) (sym h.made)
    (subst (λ (f : ℕ → ℕ → Type 0). SameOthers held k.standing.cursors f k'.standing.cursors)
    (sym (after-append held first h.its))
    (same_others-more held then (HeldAfter then h.its) k.standing.cursors h.between.standing.cursors k'.standing.cursors
    (exchanged_others held k h.between h.exchanges h.exchanged parts.0) (elim h.last [
      | inl e ↦ subst (λ (c : Calls). SameOthers then h.between.standing.cursors (HeldAfter then c) k'.standing.cursors)
          (sym e.0)
          (subst (λ (c : Kept). SameOthers then h.between.standing.cursors then c.standing.cursors) (sym e.1)
          (same_others then then h.between.standing.cursors (same_held then)))
      | inr c ↦ all_others then c.1.1.does parts.1
    ])))

-- all pins are as before
pub pins_same : (page : ℕ) (held held' : ℕ → ℕ → Type 0) (calls : Calls)
    → GivesBack sessions calls (IsKept sessions (begun page)) → AreApart held calls
    → SameHeld (HeldAfter held calls) held' → SameHeld held held'
pins_same page held held' calls (own, kept, is, e) apart now =
    let cursors = kept.standing.cursors in
    let back = unpins cursors in
    let then = HeldAfter held own in
    let parts = apart-parts held own back (subst (AreApart held) e apart) in
    let last = subst (λ (c : Calls). SameHeld (HeldAfter held c) held') e now in
    let all = same_others-more held then held' [] cursors [] (kept_others held (begun page) kept own is parts.0)
    (same_others-more then (HeldAfter then back) held' cursors [] [] (unpins_others then cursors)
    (same_others (HeldAfter then back) held' []
    (subst (λ (f : ℕ → ℕ → Type 0). SameHeld f held') (after-append held own back) last))) in
    λ slot version. (
      λ x. ((all slot version).0 (x, λ k. k)).0,
      λ x. ((all slot version).1 (x, λ k. k)).0,
    )

-- the start
pub start : {S : Type 0} (of : meaning.Ghosts S) (talker : Talker) (service : S) (settings : Settings)
    → talker.responder.cursors.settings ≡ settings → opened talker.responder.cursors ≡ []
    → talker.responder.watches.watches ≡ [] → IsServable settings
    → HoldsLines talker.taking [] talker.responder.molfile.items talker.responder.records
    → IsTalking of talker service (begun settings.page) []
start of talker service settings same none unwatched servable holds = record {
  kept_is = rw (same, none, unwatched) refl;
  ready = record {
    fit = fit_new settings talker.responder.cursors servable same none;
    held = rw none tt;
  };
  holds = holds;
}
