-- A run of one session's calls, in which all are given its number: its pins are held as its calls say, and the pins of
-- others stay.
use Rattle.std.proofs.Common.{◌≡◌, ◌==◌, ◌&&◌, ◌++◌, ◌∙◌, ap, Bool, cond, eq-eqb, eqb-true, false, inl, inr, List, [], ◌∷◌, map, ne_eqb, None, Option, refl, Some, subst, sym, true, ℕ}
use Rattle.std.specs.List.{AllByRecursion}
use Rattle.std.proofs.lemmas.Bool.{cond-false, cond-true, true≢false}
use Rattle.session_acts.specs.Cursors.{Calls}
use Rattle.session_acts.specs.Pins.{AreApart, HeldAfter, HeldBy, IsApart, effect}
use Rattle.session_acts.proofs.Held.{after-under}
use Rattle.store_machine.specs.History.{head}
use Rattle.store_machine.specs.Laws.{PinsStay}
use Rattle.store_machine.specs.Machine.{Gives, Holds, pin_in}
use Rattle.store_machine.specs.Owners.{unowned}
use Rattle.store_machine.specs.Runs.{IsCalm, IsRun, calls_of, is_call, is_own}
use Rattle.store_machine.specs.Searches.{KeepsPin, unpins}
use Rattle.store_machine.specs.declared.machine.Event.{Event}
use Rattle.store_machine.specs.declared.machine.Event.TheVariants.{Commit, Compact, Crash, Fetch, Look, Open, Pin, Prune, Stats, Unpin}
use Rattle.store_machine.specs.declared.machine.Held.{Held}
use Rattle.store_machine.specs.declared.machine.Reply.{Reply}
use Rattle.store_machine.specs.declared.machine.Reply.TheVariants as reply
use Rattle.store_machine.specs.declared.machine.State.{State}
use Rattle.store_machine.specs.declared.machine.Step.{Step}
use Rattle.store_machine.specs.declared.machine.Times.{Times}
use Rattle.drill_run.specs.Runs.{events_of}
use Rattle.drill_run.proofs.OwnPins.{NamePins, NamesPin, apart-under, names-under}
use Rattle.drill_run.proofs.Reowned.{Alike, IsHeld, Reowned, step-reowned, with_pins}

named-call : (a : ℕ → ℕ → Type 0) (e : Event) → NamesPin a e → is_call e ≡ true
named-call a (Commit c) names = refl
named-call a Pin names = refl
named-call a (Fetch slot want from limit) names = refl
named-call a (Unpin slot) names = refl
named-call a Prune names = refl
named-call a (Look id) names = refl
named-call a Stats names = refl
named-call a Compact names = refl
named-call a Crash names = absurd names
named-call a Open names = absurd names

-- a pin that was pushed into a free slot
push-first : (b : Bool) (p q : Held) (x y : Option Held) → (x ≡ None → y ≡ Some q) → cond b (Some p) x ≡ None
    → cond b (Some p) y ≡ Some q
push-first true p q x y f none = absurd (cc none)
push-first false p q x y f none = f none

pushed-in : (p : Held) (ps : List Held) → pin_in p.slot ps ≡ None → pin_in p.slot (ps ++ p ∷ []) ≡ Some p
pushed-in p [] none = cond-true (p.slot == p.slot) (Some p) None (eq-eqb p.slot p.slot refl)
pushed-in p (q ∷ qs) none =
    push-first (q.slot == p.slot) q p (pin_in p.slot qs) (pin_in p.slot (qs ++ p ∷ [])) (λ h. pushed-in p qs h) none

abbrev no_time : Times
no_time = record { a = 0; b = 0 }

-- a pin that a step does not give back
kept-by : (slot : ℕ) (e : Event) (r : Reply) (a b : Bool) → (b ≡ true → unpins slot e ≡ false)
    → KeepsPin slot (cond (a && b) ((e, r) ∷ []) [])
kept-by slot e r true true h = (h refl, tt)
kept-by slot e r true false h = tt
kept-by slot e r false true h = tt
kept-by slot e r false false h = tt

holds-step : PinsStay → (s : State) (by : ℕ) (e : Event) (r : Reply) (t : State) (slot owner v : ℕ) → Gives s by e r t
    → is_call e ≡ true → (by ≡ owner → unpins slot e ≡ false) → Holds s slot owner v → Holds t slot owner v
holds-step law s by e r t slot owner v g calm keeps h =
    let x : Step = record {
      owner = by;
      event = e;
      reply = r;
      before = s;
      after = t;
      begin = no_time;
      end = no_time;
    } in
    law s t (x ∷ []) (λ o. o == owner) slot owner v (refl, g, refl) (calm, tt) (eq-eqb owner owner refl) h
    (kept-by slot e r (is_call e) (by == owner) (λ q. keeps (eqb-true by owner q)))

-- what a step leaves to its owner
pin-keeps : PinsStay → (s t : State) (n : ℕ) (r : Reply) → Gives s n Pin r t → (slot v : ℕ)
    → HeldBy (IsHeld s.pins n) (effect Pin r) slot v → IsHeld t.pins n slot v
pin-keeps law s t n (reply.Pinned at version) g slot v (inl h) =
    holds-step law s n Pin (reply.Pinned at version) t slot n v g refl (λ _. refl) h
pin-keeps law s t n (reply.Pinned at version) g slot v (inr e) =
    let new : Held = record { slot = at; owner = n; version = head s.history } in
    let taken : IsHeld t.pins n at version =
    ap (λ (x : State). pin_in at x.pins) g.1.4
    ∙ (pushed-in new s.pins g.1.2
    ∙ ap (λ (w : ℕ). Some (let p : Held = record { slot = at; owner = n; version = w } in p)) (sym g.1.3)) in
    subst (λ (k : ℕ). IsHeld t.pins n k v) (sym e.0) (subst (λ (w : ℕ). IsHeld t.pins n at w) (sym e.1) taken)
pin-keeps law s t n r g slot v h = holds-step law s n Pin r t slot n v g refl (λ _. refl) h

keeps : PinsStay → (s t : State) (n : ℕ) (e : Event) (r : Reply) → Gives s n e r t → is_call e ≡ true → (slot v : ℕ)
    → HeldBy (IsHeld s.pins n) (effect e r) slot v → IsHeld t.pins n slot v
keeps law s t n (Commit c) r g calm slot v h = holds-step law s n (Commit c) r t slot n v g refl (λ _. refl) h
keeps law s t n Pin r g calm slot v h = pin-keeps law s t n r g slot v h
keeps law s t n (Fetch at want from limit) r g calm slot v h =
    holds-step law s n (Fetch at want from limit) r t slot n v g refl (λ _. refl) h
keeps law s t n (Unpin at) r g calm slot v h =
    holds-step law s n (Unpin at) r t slot n v g refl (λ _. ne_eqb at slot h.1) h.0
keeps law s t n Prune r g calm slot v h = holds-step law s n Prune r t slot n v g refl (λ _. refl) h
keeps law s t n (Look id) r g calm slot v h = holds-step law s n (Look id) r t slot n v g refl (λ _. refl) h
keeps law s t n Stats r g calm slot v h = holds-step law s n Stats r t slot n v g refl (λ _. refl) h
keeps law s t n Compact r g calm slot v h = holds-step law s n Compact r t slot n v g refl (λ _. refl) h
keeps law s t n Crash r g calm slot v h = absurd (true≢false (sym calm))
keeps law s t n Open r g calm slot v h = absurd (true≢false (sym calm))

none_or_some : (x : Option Held) (p : Held) → x ≡ None → x ≡ Some p → ⊥
none_or_some x p e f = cc

-- a pin is taken in a free slot
pin-apart : (s t : State) (n : ℕ) (r : Reply) → Gives s n Pin r t → IsApart (IsHeld s.pins n) (effect Pin r)
pin-apart s t n (reply.Pinned at version) g = λ other h. none_or_some (pin_in at s.pins) _ g.1.2 h
pin-apart s t n _ g = tt

apart : (s t : State) (n : ℕ) (e : Event) (r : Reply) → Gives s n e r t → IsApart (IsHeld s.pins n) (effect e r)
apart s t n (Commit c) r g = tt
apart s t n Pin r g = pin-apart s t n r g
apart s t n (Fetch at want from limit) r g = tt
apart s t n (Unpin at) r g = tt
apart s t n Prune r g = tt
apart s t n (Look id) r g = tt
apart s t n Stats r g = tt
apart s t n Compact r g = tt
apart s t n Crash r g = tt
apart s t n Open r g = tt

-- the run, all of whose steps are the session's
pub record OwnRun (n : ℕ) (s : State) (ps : List Held) (steps : List Step) (t : State) : Type 0 where
  pub pins : List Held
  pub own : List Step
  pub run : IsRun (with_pins s ps) own (with_pins t pins)
  pub alike : Alike t.pins pins
  pub calm : IsCalm own
  pub events : events_of own ≡ events_of steps
  pub by : AllByRecursion (λ (x : Step). x.owner ≡ n) own
  pub apart : AreApart (IsHeld ps n) (events_of steps)
  pub now : (slot v : ℕ) → HeldAfter (IsHeld ps n) (events_of steps) slot v → IsHeld pins n slot v
  pub others : (m slot v : ℕ) → ¬ (m ≡ n) → IsHeld ps m slot v → IsHeld pins m slot v

pub own-run : PinsStay → (n : ℕ) (s t : State) (ps : List Held) (steps : List Step) → Alike s.pins ps → IsRun s steps t
    → NamePins (IsHeld ps n) (events_of steps) → OwnRun n s ps steps t
own-run law n s t ps [] e run names = record {
  pins = ps;
  own = [];
  run = ap (λ (x : State). with_pins x ps) run;
  alike = e ∙ ap (λ (x : State). map unowned x.pins) (sym run);
  calm = tt;
  events = refl;
  by = tt;
  apart = tt;
  now = λ slot v h. h;
  others = λ m slot v other h. h;
}
own-run law n s t ps (x ∷ xs) e run names =
    let gives : Gives s x.owner x.event x.reply x.after =
    subst (λ (y : State). Gives y x.owner x.event x.reply x.after) run.0 run.1 in
    let m : Reowned s x.after ps n x.event x.reply =
    step-reowned s x.after ps x.owner n x.event x.reply e names.0 gives in
    let calm : is_call x.event ≡ true = named-call (IsHeld ps n) x.event names.0 in
    let from : State = with_pins s ps in
    let to : State = with_pins x.after m.pins in
    let then : ℕ → ℕ → Type 0 = HeldBy (IsHeld ps n) (effect x.event x.reply) in
    let keep : (slot v : ℕ) → then slot v → IsHeld m.pins n slot v =
    keeps law from to n x.event x.reply m.gives calm in
    let rest : OwnRun n x.after m.pins xs t =
    own-run law n x.after t m.pins xs m.alike run.2 (names-under then (IsHeld m.pins n) (events_of xs) keep names.1) in
    record {
      pins = rest.pins;
      own = record {
        owner = n;
        event = x.event;
        reply = x.reply;
        before = from;
        after = to;
        begin = x.begin;
        end = x.end;
      } ∷ rest.own;
      run = (refl, m.gives, rest.run);
      alike = rest.alike;
      calm = (calm, rest.calm);
      events = ap (λ (l : Calls). (x.event, x.reply) ∷ l) rest.events;
      by = (refl, rest.by);
      apart = (
        apart from to n x.event x.reply m.gives,
        apart-under then (IsHeld m.pins n) (events_of xs) keep rest.apart,
      );
      now = λ slot v h. rest.now slot v (after-under then (IsHeld m.pins n) (events_of xs) keep slot v h);
      others = λ k slot v other h. rest.others k slot v other
          (holds-step law from n x.event x.reply to slot k v m.gives calm (λ q. absurd (other (sym q))) h);
    }

-- which of its calls are a session's
pub own-calls : (n number : ℕ) (xs : List Step) → n ≡ number → IsCalm xs
    → AllByRecursion (λ (x : Step). x.owner ≡ n) xs → calls_of (λ o. o == number) xs ≡ events_of xs
own-calls n number [] e calm by = refl
own-calls n number (x ∷ xs) e calm by =
    let is : is_own (λ o. o == number) x ≡ true =
    ap (λ (b : Bool). b && (x.owner == number)) calm.0 ∙ eq-eqb x.owner number (by.0 ∙ e) in
    cond-true (is_own (λ o. o == number) x) ((x.event, x.reply) ∷ calls_of (λ o. o == number) xs)
    (calls_of (λ o. o == number) xs) is
    ∙ ap (λ (l : Calls). (x.event, x.reply) ∷ l) (own-calls n number xs e calm.1 by.1)

pub other-calls : (n number : ℕ) (xs : List Step) → ¬ (n ≡ number) → IsCalm xs
    → AllByRecursion (λ (x : Step). x.owner ≡ n) xs → calls_of (λ o. o == number) xs ≡ []
other-calls n number [] e calm by = refl
other-calls n number (x ∷ xs) e calm by =
    let is : is_own (λ o. o == number) x ≡ false =
    ap (λ (b : Bool). b && (x.owner == number)) calm.0
    ∙ ne_eqb x.owner number (λ q. e (sym by.0 ∙ q)) in
    cond-false (is_own (λ o. o == number) x) ((x.event, x.reply) ∷ calls_of (λ o. o == number) xs)
    (calls_of (λ o. o == number) xs) is
    ∙ other-calls n number xs e calm.1 by.1

-- of two runs
pub calls-join : (own : ℕ → Bool) (xs ys : List Step) → calls_of own (xs ++ ys) ≡ calls_of own xs ++ calls_of own ys
calls-join own [] ys = refl
calls-join own (x ∷ xs) ys =
    chosen (is_own own x) (x.event, x.reply) (calls_of own xs) (calls_of own ys) (calls_of own (xs ++ ys))
    (calls-join own xs ys)
  where
    chosen : (b : Bool) (c : Event × Reply) (ks ls all : Calls) → all ≡ ks ++ ls
        → cond b (c ∷ all) all ≡ cond b (c ∷ ks) ks ++ ls
    chosen true c ks ls all e = ap (λ (l : Calls). c ∷ l) e
    chosen false c ks ls all e = e
