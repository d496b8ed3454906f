-- How the pins of all cursors are given back, session by session.
use Rattle.std.proofs.Common.{◌≡◌, ◌<◌, ◌+◌, ◌++◌, ◌∙◌, ap, append-nil, arith, drop, Err, get_or, length, length-set, List, [], ◌∷◌, None, Ok, Option, refl, set, Some, subst, sym, take, ℕ}
use Rattle.std.proofs.lemmas.Grind.{drop_more_same}
use Rattle.std.proofs.lemmas.List.{drop-set-lt, drop_more, map-append, take_more}
use Rattle.dialogue.specs.Answers.{Closes}
use Rattle.dialogue.specs.declared.end.Stop.{Stop}
use Rattle.dialogue.specs.declared.end.Stop.TheVariants as stops
use Rattle.session_acts.specs.Cursors.{Calls, Cursor, unpins}
use Rattle.session_acts.specs.Pins.{AreHeld, HeldAfter, SameOthers}
use Rattle.session_acts.proofs.Held.{same_others, same_others-more}
use Rattle.session_run.proofs.Opening.{unpins_others}
use Rattle.session_run.specs.Opened.{opened}
use Rattle.session_run.specs.Searched.{ReturnsAll}
use Rattle.session_run.specs.Standings.{standing_of}
use Rattle.session_run.specs.Walks.{cursors_of}
use Rattle.session_run.specs.declared.respond.Responder.{Responder}
use Rattle.store_core.specs.Stored.{HoldsPin}
use Rattle.store_disk.specs.InMemory.{StandsInMemory}
use Rattle.drill_run.specs.Acts.{AllKept, all_of}
use Rattle.drill_run.specs.Runs.{Runs, RunsTo}
use Rattle.drill_run.specs.TalkLaws.{runs-more, runs-none}
use Rattle.drill_run.specs.Talking.{Kept}
use Rattle.drill_run.specs.Talks.{CanClose, Made, Uses, WorldTerm, talks}
use Rattle.drill_run.specs.Views.{kept_in}
use Rattle.drill_run.specs.declared.sessions.Sessions.{Sessions}
use Rattle.drill_run.proofs.Answering.{kept-append, uses-runs}
use Rattle.drill_run.proofs.Pins.{all-append, among-held, held-left}

-- The pins of the first sessions were given back, and those of the others are held
pub record AreGivenBack (all : List Responder) (old new : WorldTerm) (k : ℕ) (items : List Responder) : Type 0 where
  pub runs : RunsTo old (unpins (all_of (kept_in (take k all)))) (StandsInMemory new)
  pub held : AreHeld (HoldsPin new.memory) (all_of (kept_in (drop k items)))
  pub same : drop k items ≡ drop k all
  pub number : length items ≡ length all

pub given-none : (all : List Responder) (world : WorldTerm) → AreHeld (HoldsPin world.memory) (all_of (kept_in all))
    → AreGivenBack all world world 0 all
given-none all world h =
    record { runs = runs-none world (StandsInMemory world) (λ s at. at); held = h; same = refl; number = refl }

head-same : (x y : Responder) (xs ys : List Responder) → x ∷ xs ≡ y ∷ ys → x ≡ y
head-same x y xs ys e = cc e

-- a session behind these
module _ {all : List Responder} {old new : WorldTerm} {k : ℕ} {items : List Responder} (r : Responder)
    (h : AreGivenBack all old new k items) (less : k < length items) (is : r ≡ get_or items k r) where
  here : drop k items ≡ r ∷ drop (k + 1) items
  here = drop_more items k r less ∙ ap (λ (x : Responder). x ∷ drop (k + 1) items) (sym is)

  held-here : AreHeld (HoldsPin new.memory)
      (cursors_of (opened r.cursors) ++ all_of (kept_in (drop (k + 1) items)))
  held-here = subst (λ (l : List Responder). AreHeld (HoldsPin new.memory) (all_of (kept_in l))) here h.held

  pub held-own : AreHeld (HoldsPin new.memory) (cursors_of (opened r.cursors))
  held-own = held-left (HoldsPin new.memory) (cursors_of (opened r.cursors)) (all_of (kept_in (drop (k + 1) items)))
      held-here

  taken : take (k + 1) all ≡ take k all ++ r ∷ []
  taken =
      let within : k < length all = omega (arith, less, h.number) in
      let first : get_or items k r ≡ get_or all k r =
      head-same (get_or items k r) (get_or all k r) (drop (k + 1) items) (drop (k + 1) all)
      (sym (drop_more items k r less) ∙ (h.same ∙ drop_more all k r within)) in
      take_more all k r within ∙ ap (λ (x : Responder). take k all ++ x ∷ []) (sym (is ∙ first))

  calls : unpins (all_of (kept_in (take (k + 1) all)))
      ≡ unpins (all_of (kept_in (take k all))) ++ unpins (cursors_of (opened r.cursors))
  calls =
      let before = all_of (kept_in (take k all)) in
      let own = cursors_of (opened r.cursors) in
      ap (λ (l : List Responder). unpins (all_of (kept_in l))) taken
      ∙ (ap (λ l. unpins (all_of l)) (kept-append (take k all) (r ∷ []))
      ∙ (ap unpins (all-append (kept_in (take k all)) (standing_of r ∷ [])
      ∙ ap (λ (l : List Cursor). before ++ l) (append-nil own)) ∙ map-append _ before own))

  pub given-more : {new' : WorldTerm} (y : Responder) → Uses new new' (unpins (cursors_of (opened r.cursors)))
      → AreGivenBack all old new' (k + 1) (set items k y)
  given-more {new'} y uses =
      let own = cursors_of (opened r.cursors) in
      let held = HoldsPin new.memory in
      let then = HoldsPin new'.memory in
      let left = drop (k + 1) items in
      let others : SameOthers held own then [] =
      same_others-more held (HeldAfter held (unpins own)) then own [] [] (unpins_others held own)
      (same_others (HeldAfter held (unpins own)) then [] uses.pins.now) in
      let stays : drop (k + 1) (set items k y) ≡ left = drop-set-lt (k + 1) items k y (omega arith) in
      record {
        runs = subst (λ (c : Calls). RunsTo old c (StandsInMemory new')) (sym calls)
            (runs-more old new (unpins (all_of (kept_in (take k all)))) (unpins own) (StandsInMemory new') h.runs
            (uses-runs uses));
        held = subst (λ (l : List Responder). AreHeld then (all_of (kept_in l))) (sym stays)
            (among-held held then own [] others [] (all_of (kept_in left)) tt held-here);
        same = stays ∙ drop_more_same items all k h.same;
        number = length-set items k y ∙ h.number;
      }

-- a world is never worn
pub never-returns : (Made : Calls → Type 0) (IsWorn : Type 0) (cursors : List Cursor) (why : Stop) → ¬ IsWorn
    → ReturnsAll Made IsWorn cursors (Err why) → ⊥
never-returns Made IsWorn cursors stops.Worn not r = not r.3
never-returns Made IsWorn cursors stops.NoMemory not r = r

-- what was made of a world
pub made-runs : (world : WorldTerm) (slot : Option WorldTerm) (calls : Calls) → Made (Some world) slot calls
    → Runs world calls
made-runs world None _ h = h
made-runs world (Some new) _ h = λ s at. let r = h s at in (r.0, r.1, r.2, r.3, tt)

-- what is kept of a slot was given back
pub closes : (sessions : Sessions) (world world' : WorldTerm) (kept : Kept) → CanClose sessions (Some world) kept
    → RunsTo world (unpins (all_of (kept_in sessions.responders.items))) (StandsInMemory world')
    → Closes talks (Ok tt) (Some world) (Some world') kept
closes sessions world world' kept can runs =
    subst (λ (l : AllKept). RunsTo world (unpins (all_of l)) (StandsInMemory world')) (sym can.0) runs
