-- What lines do to a world and to the sessions.
use Rattle.std.proofs.Common.{◌≡◌, ◌≤◌, ◌<◌, ◌+◌, ◌-◌, ◌^◌, ◌++◌, ◌∙◌, ap, arith, Err, get_or, inl, inr, length, List, [], ◌∷◌, map, None, Ok, Option, refl, Result, set, Some, subst, suc, sym, zero, ℕ}
use Rattle.std.specs.List.{AllByRecursion}
use Rattle.std.specs.Prelude.{IsErr, OnErr, OnOk, Vec, if◌then◌else◌, is_ok}
use Rattle.std.specs.declared.alloc.Global.{Global}
use Rattle.std.specs.declared.alloc.AllocError.{AllocError}
use Rattle.std.proofs.lemmas.Bool.{true≢false}
use Rattle.std.proofs.lemmas.List.{map-append}
use Rattle.dialogue.specs.declared.end.Stop.TheVariants as stops
use Rattle.disk_edge.specs.Medium.{model}
use Rattle.disk_pair.specs.Term.{disk_a, disk_b}
use Rattle.drill_core.specs.Faults.{FaultsAreCounted, disk_faults}
use Rattle.drill_core.specs.Worlds.{HasNoFailures, Reopens, bounds_of}
use Rattle.io_edge.specs.Lines.{TextLine, Whole}
use Rattle.session_acts.specs.Acts.{Lines, RequestAnswer}
use Rattle.session_acts.specs.Cursors.{Calls}
use Rattle.session_acts.specs.Pins.{AreHeld, HeldAfter}
use Rattle.session_acts.specs.Watching.{Standing, nothing_kept}
use Rattle.session_acts.proofs.ActPins.{all_held, all_others}
use Rattle.session_acts.proofs.Held.{held-same, moves-none, not_raised-same, same_others, same_others-more}
use Rattle.session_run.specs.Made as made
use Rattle.session_run.specs.Made.{Answered, AnsweredBy, Broken, Did, Said, Unsaid}
use Rattle.session_run.specs.Opened.{opened}
use Rattle.session_run.specs.Responds.{IsFit, KeepsPins}
use Rattle.session_run.specs.Standings.{standing_of}
use Rattle.session_run.specs.Walks.{cursors_of}
use Rattle.session_run.specs.declared.respond.Responder.{Responder}
use Rattle.session_run.specs.declared.settings.Settings.{Settings}
use Rattle.shell_lang.specs.Command.{TakesLines}
use Rattle.shell_lang.specs.CommandView.{Takes}
use Rattle.shell_lang.specs.Reply.{text_of}
use Rattle.shell_lang.specs.declared.command.TakenLines.{TakenLines}
use Rattle.shell_lang.specs.declared.command.TakenLines.TheVariants as taken
use Rattle.store_core.specs.Calls.{SameHeld}
use Rattle.store_core.specs.Stored.{HoldsPin}
use Rattle.store_core.specs.declared.service.Service as meaning
use Rattle.store_machine.specs.Openings.{reopening}
use Rattle.store_machine.specs.declared.machine.Event.TheVariants.{Crash, Open}
use Rattle.store_machine.specs.declared.machine.Reply.TheVariants.{Crashed, Opened}
use Rattle.store_machine.specs.declared.machine.State.{State}
use Rattle.store_machine.specs.declared.machine.Times.{Times}
use Rattle.store_disk.specs.InMemory.{StandsInMemory}
use Rattle.store_disk.specs.Stored.{stays}
use Rattle.drill_run.specs.Acts.{AllKept, Does, IsOwnAnswer, all_of, forgotten, lines_refused, reopened_text}
use Rattle.drill_run.specs.Causes.{MayFail, Tally, faults_in, nothing_set, tally_after}
use Rattle.drill_run.specs.Lines.{DrillLine, Empty, Fail, Reads, Reopen, Session, Stop}
use Rattle.drill_run.specs.Numbers.{numbered}
use Rattle.drill_run.specs.Runs.{RunsTo}
use Rattle.drill_run.specs.TalkLaws.{can_close, runs-none}
use Rattle.drill_run.specs.Talking as talking
use Rattle.drill_run.specs.Talking.{IsAnswer, Kept}
use Rattle.drill_run.specs.Talks.{AnswersLine, AnswersOwn, AreReady, IsDrilling, IsReady, IsSessionOf, IsTallied, Made, Uses, WorldTerm, kept_of}
use Rattle.drill_run.specs.Views.{kept_in}
use Rattle.drill_run.specs.declared.line.TheConstants.{SESSIONS}
use Rattle.drill_run.specs.declared.sessions.Sessions.{Sessions}
use Rattle.drill_run.proofs.Events.{calm-events, same-faults}
use Rattle.drill_run.proofs.Tallies.{tally-new, tally-session}
use Rattle.drill_run.proofs.Pins.{session-held, sessions-held}

-- a line was answered, and its answer is said, unless memory ran out for that
pub answered : (result : Result (Unit {0}) AllocError) (b : Sessions) (slot : Option WorldTerm) (new : WorldTerm)
    (kept kept' : Kept) (line : TextLine) (n : ℕ) (calls : Calls) (said : talking.Said) → Made slot (Some new) calls
    → IsAnswer kept line calls said kept' → IsDrilling b (Some new) kept' [] (n + 1)
    → OnOk result (b.out.items ≡ said.text) → AnswersLine result b slot (Some new) kept line n
answered (Ok u) b slot new kept kept' line n calls said made is ready out = record {
  calls = calls;
  reply = said;
  kept' = kept';
  made = made;
  answers = (line, refl, is);
  said = out;
  ready = ready;
}
answered (Err fault) b slot new kept kept' line n calls said made is ready out = record {
  calls = calls;
  kept' = kept';
  made = made;
  cuts = (line, refl, inl (said, is));
  closable = can_close b (Some new) kept' [] (n + 1) ready;
}

fails-after : (t : Tally) (read : Option DrillLine) (calls : Calls) → (tally_after t read calls).fails ≤ t.fails + 1
fails-after t (Some Empty) calls = omega arith
fails-after t (Some (Session number line)) calls = omega arith
fails-after t (Some (Stop disk calls_left)) calls = omega arith
fails-after t (Some (Fail disk call)) calls = omega arith
fails-after t (Some (Reopen image)) calls = omega arith
fails-after t None calls = omega arith

pub not-ok : {A E : Type 0} (P : Type 0) (r : Result A E) → IsErr r → OnOk r P
not-ok P (Ok u) is = absurd (true≢false (sym is))
not-ok P (Err e) is = tt

-- what follows a text that was empty
pub said-alone : (result : Result (Unit {0}) AllocError) (out out' text : List ℕ) → out ≡ []
    → OnOk result (out' ≡ out ++ text) → OnOk result (out' ≡ text)
said-alone (Ok u) out out' text empty h = h ∙ ap (λ (l : List ℕ). l ++ text) empty
said-alone (Err e) out out' text empty h = tt

pub appended-alone : (result : Result (Unit {0}) AllocError) (out out' text : List ℕ) → out ≡ []
    → out' ≡ (if is_ok result then out ++ text else out) → OnOk result (out' ≡ text)
appended-alone (Ok u) out out' text empty h = h ∙ ap (λ (l : List ℕ). l ++ text) empty
appended-alone (Err e) out out' text empty h = tt

-- a line for which the world is asked nothing
module _ (a b : Sessions) (old new : WorldTerm) (line : TextLine) (read : Option DrillLine) (text : List ℕ)
    (reads : Reads line read)
    (does : Does a.settings.page line read (kept_in a.responders.items) [] text (kept_in a.responders.items))
    (stands : (s : State) → StandsInMemory old s → StandsInMemory new s) (memory : new.memory ≡ old.memory)
    (tallied : (t : Tally) → IsTallied t old → IsTallied (tally_after t read []) new)
    (responders : b.responders ≡ a.responders) (settings : b.settings ≡ a.settings) where
  pub quiet : (result : Result (Unit {0}) AllocError) → OnOk result (b.out.items ≡ text) → (tally : Tally) (n : ℕ)
      → IsReady a old tally n → AnswersLine result b (Some old) (Some new) (kept_of a tally) line n
  quiet result out tally n h =
      answered result b (Some old) new (kept_of a tally) (kept_of a (tally_after tally read [])) line n []
      (record { read = read; text = text }) (runs-none old (StandsInMemory new) stands)
      (record { reads = reads; does = does; caused = inl refl; page_is = refl; tally_is = refl })
      (record {
        kept_is = rw (responders, settings) refl;
        ready = record {
          state = h.state;
          stands = stands h.state h.stands;
          number = ap (λ (l : Vec Responder Global). length l.items) responders ∙ h.number;
          fit = rw (responders, settings) h.fit;
          held = rw (responders, memory) h.held;
          tallied = tallied tally h.tallied;
          few = omega (arith, fails-after tally read [], h.few);
        };
        taken = tt;
      })
      out

-- a session's line was answered, as a session answers it, by the service of a world
module _ {size : ℕ} {own : List ℕ} {old new : WorldTerm} {kept kept' : Standing}
    (of : meaning.Ghosts WorldTerm) (convert : (calls : Calls) → made.Uses of old new calls → Uses old new calls)
    (other : ¬ TakesLines own) where
  of-did : Did (made.Uses of old new) (RequestAnswer size kept (record { line = Whole own; more = [] })) kept'
      → AnswersOwn size own old new kept kept'
  of-did d = record {
    calls = d.calls;
    lines = d.lines;
    is = inr (other, d.is);
    uses = convert d.calls d.made;
  }

  pub own-said : (out : List ℕ)
      → AnsweredBy of old new (RequestAnswer size kept (record { line = Whole own; more = [] })) [] out kept'
      (Ok tt) → (a : AnswersOwn size own old new kept kept') × (out ≡ text_of a.lines)
  unfolding of-did
  own-said out (Said u did e) = (of-did did, e)

  pub own-unsaid : (out : List ℕ)
      → AnsweredBy of old new (RequestAnswer size kept (record { line = Whole own; more = [] })) [] out kept'
      (Err stops.NoMemory) → AnswersOwn size own old new kept kept'
  own-unsaid out (Unsaid did) = of-did did

-- a line for which nothing is asked or set, where the world may be gone
pub quiet-at : (a b : Sessions) (slot : Option WorldTerm) (line : TextLine) (read : Option DrillLine) (text : List ℕ)
    → Reads line read
    → Does a.settings.page line read (kept_in a.responders.items) [] text (kept_in a.responders.items)
    → ((t : Tally) → tally_after t read [] ≡ t) → b.responders ≡ a.responders → b.settings ≡ a.settings
    → (result : Result (Unit {0}) AllocError) → OnOk result (b.out.items ≡ text) → (tally : Tally) (n : ℕ)
    → AreReady a slot tally n → AnswersLine result b slot slot (kept_of a tally) line n
quiet-at a b None line read text reads does same responders settings result out tally n h = absurd h
quiet-at a b (Some world) line read text reads does same responders settings result out tally n h =
    quiet a b world world line read text reads does (λ s at. at) refl
    (λ t k. subst (λ (x : Tally). IsTallied x world) (sym (same t)) k) responders settings result out tally n h

-- the events of calls
pub uses-runs : {old new : WorldTerm} {calls : Calls} → Uses old new calls → RunsTo old calls (StandsInMemory new)
uses-runs u = λ s at.
    let m = u.makes.made s at in
    (m.steps, m.after, m.stands.run, sym (calm-events m.steps m.stands.calm) ∙ m.own, m.stands.ends)

-- a service that is never worn
pub never-worn : {Made : Calls → Type 0} {IsWorn : Type 0} {Is : Calls → Lines → Standing → Type 0}
    {out out' : List ℕ} {after : Standing} → ¬ IsWorn → Answered Made IsWorn Is out out' after (Err stops.Worn) → ⊥
never-worn not (Broken w) = not w.worn

-- it would take more lines
pub takes-lines : (own : List ℕ) (lines : TakenLines) → Takes lines own → TakesLines own
takes-lines own (taken.Molfile read) h = inl h.0
takes-lines own (taken.Records count first) ((part, h), line) = inr (part, count, h)

-- it was refused
uses-none : (world : WorldTerm) → Uses world world []
uses-none world = record {
  makes = record {
    made = λ s at. record { steps = []; after = s; stands = stays model world s at; own = refl };
  };
  pins = moves-none (HoldsPin world.memory);
  bounds = not_raised-same (bounds_of world);
}

refused : (size : ℕ) (own : List ℕ) (world : WorldTerm) (kept : Standing) → TakesLines own
    → (a : AnswersOwn size own world world kept kept) × (text_of lines_refused ≡ text_of a.lines)
refused size own world kept starts = (
  record { calls = []; lines = lines_refused; is = inl (starts, refl, refl, refl); uses = uses-none world },
  refl,
)

module _ (size : ℕ) (own : List ℕ) (world : WorldTerm) (kept kept' : Standing) (starts : TakesLines own)
    (same : kept' ≡ kept) where
  answer : (a : AnswersOwn size own world world kept kept') × (text_of lines_refused ≡ text_of a.lines)
  answer = subst (λ (k : Standing). (a : AnswersOwn size own world world kept k)
      × (text_of lines_refused ≡ text_of a.lines)) (sym same) (refused size own world kept starts)

  pub refused-ok : {A E : Type 0} (r : Result A E) (out : List ℕ) → OnOk r (out ≡ text_of lines_refused)
      → OnOk r ((a : AnswersOwn size own world world kept kept') × (out ≡ text_of a.lines))
  refused-ok (Ok u) out h = (answer.0, h ∙ answer.1)
  refused-ok (Err e) out h = tt

  pub refused-err : {A E : Type 0} (r : Result A E) → OnErr r (AnswersOwn size own world world kept kept')
  refused-err (Ok u) = tt
  refused-err (Err e) = answer.0

-- the pins of its cursors
pub own-keeps : {size : ℕ} {own : List ℕ} {old new : WorldTerm} {kept kept' : Standing}
    → AnswersOwn size own old new kept kept' → AreHeld (HoldsPin old.memory) kept.cursors
    → KeepsPins (HoldsPin old.memory) kept.cursors (HoldsPin new.memory) kept'.cursors
own-keeps {size} {own} {old} {new} {kept} {kept'} a h = by a.is where
  before : ℕ → ℕ → Type 0
  before = HoldsPin old.memory

  after : ℕ → ℕ → Type 0
  after = HoldsPin new.memory

  by : IsOwnAnswer size own kept a.calls a.lines kept' → KeepsPins before kept.cursors after kept'.cursors
  by (inl r) =
      let now : SameHeld before after =
      subst (λ (c : Calls). SameHeld (HeldAfter before c) after) r.1 a.uses.pins.now in
      subst (λ (k : Standing). KeepsPins before kept.cursors after k.cursors) (sym r.3) (record {
        are_held = held-same before after kept.cursors now h;
        others = same_others before after kept.cursors now;
      })
  by (inr r) =
      let since = HeldAfter before a.calls in record {
        are_held = held-same since after kept'.cursors a.uses.pins.now
            (all_held before r.1.does a.uses.pins.apart h);
        others = same_others-more before since after kept.cursors kept'.cursors kept'.cursors
            (all_others before r.1.does a.uses.pins.apart)
            (same_others since after kept'.cursors a.uses.pins.now);
      }

-- An element in its place among others
pub record IsAt {X : Type 0} (xs : List X) (i : ℕ) (x : X) : Type 0 where
  pub before : List X
  pub after : List X
  pub place : xs ≡ before ++ x ∷ after
  pub number : length before ≡ i
  pub changed : (y : X) → set xs i y ≡ before ++ y ∷ after

pub at-place : {X : Type 0} (xs : List X) (i : ℕ) (d : X) → i < length xs
    → IsAt xs i (get_or xs i d)
at-place [] i d less = absurd (omega (arith, less))
at-place (x ∷ xs) zero d less =
    record { before = []; after = xs; place = refl; number = refl; changed = λ y. refl }
at-place (x ∷ xs) (suc i) d less = let h = at-place xs i d (omega (arith, less)) in record {
  before = x ∷ h.before;
  after = h.after;
  place = ap (λ l. x ∷ l) h.place;
  number = omega (arith, h.number);
  changed = λ y. ap (λ l. x ∷ l) (h.changed y);
}

all-at : {X : Type 0} (P : X → Type 0) (xs ys : List X) (x : X) → AllByRecursion P (xs ++ x ∷ ys) → P x
all-at P [] ys x h = h.0
all-at P (z ∷ xs) ys x h = all-at P xs ys x h.1

all-set : {X : Type 0} (P : X → Type 0) (xs ys : List X) (x y : X) → AllByRecursion P (xs ++ x ∷ ys) → P y
    → AllByRecursion P (xs ++ y ∷ ys)
all-set P [] ys x y h p = (p, h.1)
all-set P (z ∷ xs) ys x y h p = (h.0, all-set P xs ys x y h.1 p)

pub kept-append : (xs ys : List Responder) → kept_in (xs ++ ys) ≡ kept_in xs ++ kept_in ys
kept-append xs ys = map-append _ xs ys

-- a reopening
abbrev no_time : Times
no_time = record { a = 0; b = 0 }

abbrev none_kept : Responder → Standing
none_kept r = nothing_kept

none-again : (xs : List Responder) → forgotten (kept_in xs) ≡ map none_kept xs
none-again [] = refl
none-again (x ∷ xs) = ap (λ (l : AllKept). nothing_kept ∷ l) (none-again xs)

none-open : (all : AllKept) → all_of (forgotten all) ≡ []
none-open [] = refl
none-open (x ∷ xs) = none-open xs

-- nothing is kept
abbrev cleared : Sessions → Kept
cleared a =
    record { page = a.settings.page; all = forgotten (kept_in a.responders.items); tally = nothing_set }

module _ (a b : Sessions) (old : WorldTerm) (line : TextLine) (image : ℕ) (tally : Tally) (n : ℕ)
    (ready : IsReady a old tally n) (reads : Reads line (Some (Reopen image))) where
  pub opened-by : (new : WorldTerm) (x y : List ℕ) (version : ℕ)
      → ((s : State) → StandsInMemory old s → Reopens s x y new version) → HasNoFailures new
      → length b.responders.items ≡ length a.responders.items
      → AllByRecursion (IsSessionOf a.settings) b.responders.items
      → kept_in b.responders.items ≡ map none_kept a.responders.items → b.settings ≡ a.settings
      → (result : Result (Unit {0}) AllocError) → OnOk result (b.out.items ≡ reopened_text version)
      → AnswersLine result b (Some old) (Some new) (kept_of a tally) line n
  opened-by new x y version reopens unset number fit none settings result out =
      let all : kept_in b.responders.items ≡ forgotten (kept_in a.responders.items) =
      none ∙ sym (none-again a.responders.items) in
      answered result b (Some old) new (kept_of a tally) (cleared a) line n
      ((Crash, Crashed) ∷ (Open, Opened version) ∷ [])
      (record { read = Some (Reopen image); text = reopened_text version })
      (λ s at. let r = reopens s at in (
        reopening s r.after no_time no_time no_time,
        r.after,
        r.run no_time no_time no_time,
        ap (λ (n : ℕ). (Crash, Crashed) ∷ (Open, Opened n) ∷ []) (sym r.version),
        r.stands,
      ))
      (record {
        reads = reads;
        does = (version, refl, refl, refl);
        caused = inl refl;
        page_is = refl;
        tally_is = refl;
      })
      (record {
        kept_is = ap (λ (l : AllKept). record { page = a.settings.page; all = l; tally = nothing_set }) (sym all)
            ∙ ap (λ (s : Settings). record { page = s.page; all = kept_in b.responders.items; tally = nothing_set })
            (sym settings);
        ready = record {
          state = (reopens ready.state ready.stands).after;
          stands = (reopens ready.state ready.stands).stands;
          number = number ∙ ready.number;
          fit = subst (λ (k : Settings). AllByRecursion (IsSessionOf k) b.responders.items) (sym settings) fit;
          held = subst (AreHeld (HoldsPin new.memory)) (sym (ap all_of all ∙ none-open (kept_in a.responders.items)))
              tt;
          tallied = tally-new (disk_a new.pair).failures (disk_b new.pair).failures unset.0 unset.1;
          few = omega arith;
        };
        taken = tt;
      })
      out

  -- memory ran out, and the world is gone
  pub unopened : (result : Result (Unit {0}) AllocError) → IsErr result
      → AnswersLine result b (Some old) None (kept_of a tally) line n
  unopened (Ok u) is = absurd (true≢false (sym is))
  unopened (Err fault) is = record {
    calls = [];
    kept' = cleared a;
    made = λ s at. ([], s, refl, refl, tt);
    cuts = (line, refl, inr (image, reads, refl, refl));
    closable = none-open (kept_in a.responders.items);
  }

-- a session's line
module _ (a b : Sessions) (rs : List Responder) (old new : WorldTerm) (number : ℕ) (own : List ℕ) (r r' : Responder)
    (tally : Tally) (n : ℕ) (ready : IsReady a old tally n) (counted : FaultsAreCounted) (some : 1 ≤ number)
    (few : number ≤ SESSIONS) (is : r ≡ get_or a.responders.items (number - 1) r)
    (written : rs ≡ set a.responders.items (number - 1) r') (fit : IsFit r'.cursors)
    (same : r'.cursors.settings ≡ r.cursors.settings)
    (sized : AnswersOwn a.settings.page own old new (standing_of r) (standing_of r')) where
  within : number - 1 < length a.responders.items
  within = omega (arith, ready.number, some, few)

  place : IsAt a.responders.items (number - 1) r
  place = subst (IsAt a.responders.items (number - 1)) (sym is) (at-place a.responders.items (number - 1) r within)

  of-session : IsSessionOf a.settings r
  of-session = all-at (IsSessionOf a.settings) place.before place.after r
      (subst (AllByRecursion (IsSessionOf a.settings)) place.place ready.fit)

  left : rs ≡ place.before ++ r' ∷ place.after
  left = written ∙ place.changed r'

  before : kept_in a.responders.items ≡ kept_in place.before ++ standing_of r ∷ kept_in place.after
  before = ap kept_in place.place ∙ kept-append place.before (r ∷ place.after)

  after : kept_in rs ≡ kept_in place.before ++ standing_of r' ∷ kept_in place.after
  after = ap kept_in left ∙ kept-append place.before (r' ∷ place.after)

  number-at : (xs : List Responder) → length (kept_in xs) ≡ length xs
  number-at [] = refl
  number-at (x ∷ xs) = ap suc (number-at xs)

  length-changed : (xs ys : List Responder) → length (xs ++ r' ∷ ys) ≡ length (xs ++ r ∷ ys)
  length-changed [] ys = refl
  length-changed (x ∷ xs) ys = ap suc (length-changed xs ys)

  held-before : AreHeld (HoldsPin old.memory)
      (all_of (kept_in place.before ++ standing_of r ∷ kept_in place.after))
  held-before = subst (λ (c : AllKept). AreHeld (HoldsPin old.memory) (all_of c)) before ready.held

  held-own : AreHeld (HoldsPin old.memory) (cursors_of (opened r.cursors))
  held-own = session-held (HoldsPin old.memory) (kept_in place.before) (kept_in place.after) (standing_of r)
      held-before

  held-after : AreHeld (HoldsPin new.memory) (all_of (kept_in rs))
  held-after = subst (λ (c : AllKept). AreHeld (HoldsPin new.memory) (all_of c)) (sym after)
      (sessions-held (HoldsPin old.memory) (HoldsPin new.memory) (kept_in place.before) (kept_in place.after)
      (standing_of r) (standing_of r') (own-keeps sized held-own) held-before)

  fit-after : AllByRecursion (IsSessionOf a.settings) rs
  fit-after = subst (AllByRecursion (IsSessionOf a.settings)) (sym left)
      (all-set (IsSessionOf a.settings) place.before place.after r r'
      (subst (AllByRecursion (IsSessionOf a.settings)) place.place ready.fit) (fit, same ∙ of-session.1))

  number-after : length rs ≡ SESSIONS
  number-after =
      ap length left
      ∙ (length-changed place.before place.after ∙ (sym (ap length place.place) ∙ ready.number))

  -- its disk faults are allowed
  counts : n + 1 < 2 ^ 64 → MayFail tally (faults_in sized.calls)
      × IsTallied (record tally { faults = tally.faults + faults_in sized.calls }) new
  counts small =
      let k = sized.uses.makes.made ready.state ready.stands in
      let faults : faults_in sized.calls ≡ disk_faults k.steps =
      ap faults_in (sym k.own ∙ calm-events k.steps k.stands.calm) ∙ same-faults k.steps in
      tally-session tally (disk_a old.pair).failures (disk_b old.pair).failures (disk_a new.pair).failures
      (disk_b new.pair).failures sized.calls ready.tallied (omega (arith, ready.few, small)) sized.uses.bounds
      (λ few-a few-b.
      let sum = counted old new ready.state k.after k.steps k.stands (omega (arith, few-a), omega (arith, few-b)) in
      omega (arith, sum, faults))

  pub asked : (line : TextLine) → Reads line (Some (Session number own)) → n + 1 < 2 ^ 64
      → b.responders.items ≡ rs → b.settings ≡ a.settings
      → (result : Result (Unit {0}) AllocError) → OnOk result (b.out.items ≡ numbered number (text_of sized.lines))
      → AnswersLine result b (Some old) (Some new) (kept_of a tally) line n
  asked line reads small those settings result out =
      let k = sized.uses.makes.made ready.state ready.stands in
      let tally' = record tally { faults = tally.faults + faults_in sized.calls } in
      answered result b (Some old) new (kept_of a tally)
      (record { page = a.settings.page; all = kept_in rs; tally = tally' }) line n sized.calls
      (record { read = Some (Session number own); text = numbered number (text_of sized.lines) })
      (uses-runs sized.uses)
      (record {
        reads = reads;
        does = record {
          before = kept_in place.before;
          standing = standing_of r;
          standing' = standing_of r';
          after = kept_in place.after;
          lines = sized.lines;
          place = before;
          number_is = omega (arith, some, place.number, number-at place.before);
          answer = sized.is;
          said = refl;
          left = after;
        };
        caused = (counts small).0;
        page_is = refl;
        tally_is = refl;
      })
      (record {
        kept_is = ap (λ (l : List Responder). record { page = a.settings.page; all = kept_in l; tally = tally' })
            (sym those)
            ∙ ap (λ (s : Settings). record { page = s.page; all = kept_in b.responders.items; tally = tally' })
            (sym settings);
        ready = record {
          state = k.after;
          stands = k.stands.ends;
          number = ap length those ∙ number-after;
          fit = subst (λ (xs : List Responder). AllByRecursion (IsSessionOf b.settings) xs) (sym those)
              (subst (λ (k : Settings). AllByRecursion (IsSessionOf k) rs) (sym settings) fit-after);
          held = subst (λ (xs : List Responder). AreHeld (HoldsPin new.memory) (all_of (kept_in xs))) (sym those)
              held-after;
          tallied = (counts small).1;
          few = omega (arith, ready.few);
        };
        taken = tt;
      })
      out

-- the session that is asked
module _ {a : Sessions} {old : WorldTerm} {tally : Tally} {n : ℕ} (ready : IsReady a old tally n) (number : ℕ)
    (r : Responder) (some : 1 ≤ number) (few : number ≤ SESSIONS)
    (is : r ≡ get_or a.responders.items (number - 1) r) where
  its-place : IsAt a.responders.items (number - 1) r
  its-place = subst (IsAt a.responders.items (number - 1)) (sym is)
      (at-place a.responders.items (number - 1) r (omega (arith, ready.number, some, few)))

  its-fit : IsSessionOf a.settings r
  its-fit = all-at (IsSessionOf a.settings) its-place.before its-place.after r
      (subst (AllByRecursion (IsSessionOf a.settings)) its-place.place ready.fit)

  pub asks-settings : a.settings.page ≡ r.cursors.settings.page
  asks-settings = sym (ap (λ (k : Settings). k.page) its-fit.1)

  pub asks-fit : IsFit r.cursors × AreHeld (HoldsPin old.memory) (cursors_of (opened r.cursors))
  asks-fit = (
    its-fit.0,
    session-held (HoldsPin old.memory) (kept_in its-place.before) (kept_in its-place.after) (standing_of r)
        (subst (λ (c : AllKept). AreHeld (HoldsPin old.memory) (all_of c))
        (ap kept_in its-place.place ∙ kept-append its-place.before (r ∷ its-place.after)) ready.held),
  )
