-- The sessions of a drill share one run: where its steps have the numbers of their sessions, each session's calls are
-- those of its own dialogue.
use Rattle.std.proofs.Common.{◌≡◌, ◌==◌, ◌++◌, ◌∙◌, ap, append-nil, inl, inr, List, [], ◌∷◌, refl, subst, sym, ℕ}
use Rattle.session_acts.specs.Cursors.{Calls}
use Rattle.dialogue.specs.Dialogue.{AreExchanged, calls_in}
use Rattle.dialogue.proofs.Exchanges.{calls-parts, exchanged-parts}
use Rattle.session_acts.specs.Talking.{Kept, sessions}
use Rattle.session_acts.specs.Talking as talking
use Rattle.session_acts.specs.Pins.{AreHeld}
use Rattle.session_acts.specs.Truths.{AreTrue, DialoguesAreTrue}
use Rattle.session_acts.specs.Watching.{Standing, nothing_kept}
use Rattle.store_machine.proofs.Joins.{calms-join, runs-join}
use Rattle.store_machine.specs.Laws.{IsSound, PinsStay, RunsStaySound}
use Rattle.store_machine.specs.Runs.{IsCalm, IsRun, calls_of}
use Rattle.store_machine.specs.declared.machine.Held.{Held}
use Rattle.store_machine.specs.declared.machine.State.{State}
use Rattle.store_machine.specs.declared.machine.Step.{Step}
use Rattle.drill_run.specs.Runs.{events_of}
use Rattle.drill_run.specs.Talking.{Exchange, begun, drills}
use Rattle.drill_run.specs.Talking as drill
use Rattle.drill_run.specs.Truths.{AreOwn, BeginsAnew, IsPart}
use Rattle.drill_run.proofs.Owners.{calls-join}
use Rattle.drill_run.proofs.Parts.{AreNone, Halves, halves, none-open, of_number, page-stays}
use Rattle.drill_run.proofs.Reowned.{Alike, IsHeld, with_pins}
use Rattle.drill_run.proofs.OneLine.{AreHolding, IsToldOf, OneLine, by-read, no-event}

-- what a session of a drill keeps, with the size of its pages
abbrev pub kept_by : ℕ → drill.Kept → Kept
kept_by number kept = record { page = kept.page; standing = of_number number kept.all }

-- the steps of a part, with their sessions' numbers, and the dialogue of one session
record InPart (number : ℕ) (part : List Exchange) (kept kept' : drill.Kept) (s : State) (ps : List Held) (t : State)
    : Type 0 where
  pins : List Held
  own : List Step
  run : IsRun (with_pins s ps) own (with_pins t pins)
  calm : IsCalm own
  dialogue : List talking.Exchange
  are : AreOwn number part dialogue
  exchanged : AreExchanged sessions (kept_by number kept) dialogue (kept_by number kept')
  calls : calls_in sessions dialogue ≡ calls_of (λ o. o == number) own

-- a line, and those behind it
before-part : (number : ℕ) (x : Exchange) (xs : List Exchange) (kept between kept' : drill.Kept) (s m t : State)
    (ps : List Held) → between.page ≡ kept.page → (o : OneLine kept.page number x kept.all between.all s ps m)
    → InPart number xs between kept' m o.pins t → InPart number (x ∷ xs) kept kept' s ps t
before-part number x xs kept between kept' s m t ps page o p = by o.told where
  joined : calls_of (λ n. n == number) (o.own ++ p.own)
      ≡ calls_of (λ n. n == number) o.own ++ calls_of (λ n. n == number) p.own
  joined = calls-join (λ n. n == number) o.own p.own

  by : IsToldOf kept.page number x kept.all (calls_of (λ n. n == number) o.own) between.all
      → InPart number (x ∷ xs) kept kept' s ps t
  by (inl (y, is, its, answer)) = record {
    pins = p.pins;
    own = o.own ++ p.own;
    run = runs-join o.own p.own (with_pins s ps) (with_pins m o.pins) (with_pins t p.pins) o.run p.run;
    calm = calms-join o.own p.own o.calm p.calm;
    dialogue = y ∷ p.dialogue;
    are = inl (y, p.dialogue, refl, is, p.are);
    exchanged = (kept_by number between, (answer, page), p.exchanged);
    calls = ap (λ (l : Calls). l ++ calls_in sessions p.dialogue) its
        ∙ (ap (λ (l : Calls). calls_of (λ n. n == number) o.own ++ l) p.calls ∙ sym joined);
  }
  by (inr (other, none, same)) =
      let calls : calls_of (λ n. n == number) (o.own ++ p.own) ≡ calls_of (λ n. n == number) p.own =
      joined ∙ ap (λ (l : Calls). l ++ calls_of (λ n. n == number) p.own) none in
      record {
        pins = p.pins;
        own = o.own ++ p.own;
        run = runs-join o.own p.own (with_pins s ps) (with_pins m o.pins) (with_pins t p.pins) o.run p.run;
        calm = calms-join o.own p.own o.calm p.calm;
        dialogue = p.dialogue;
        are = inr (other, p.are);
        exchanged = subst (λ (k : Standing). AreExchanged sessions (record { page = kept.page; standing = k })
            p.dialogue (kept_by number kept')) same
            (subst (λ (n : ℕ). AreExchanged sessions (record { page = n; standing = of_number number between.all })
            p.dialogue (kept_by number kept')) page p.exchanged);
        calls = p.calls ∙ sym calls;
      }

in-part : PinsStay → (number : ℕ) (part : List Exchange) (kept kept' : drill.Kept) (s t : State) (ps : List Held)
    (steps : List Step) → Alike s.pins ps → IsRun s steps t → events_of steps ≡ calls_in drills part
    → AreHolding ps kept.all → IsPart part → AreExchanged drills kept part kept'
    → InPart number part kept kept' s ps t
in-part law number [] kept kept' s t ps steps alike run made holding is h = record {
  pins = ps;
  own = [];
  run = ap (λ (y : State). with_pins y ps) (no-event s t steps run made);
  calm = tt;
  dialogue = [];
  are = refl;
  exchanged = ap (λ (k : drill.Kept). kept_by number k) h;
  calls = refl;
}
in-part law number (x ∷ xs) kept kept' s t ps steps alike run made holding is h =
    let k : Halves s t steps x.calls (calls_in drills xs) = halves s t steps x.calls (calls_in drills xs) run made in
    let a = h.1.2 in
    let o : OneLine kept.page number x kept.all h.0.all s ps k.middle =
    by-read law kept.page number x kept.all h.0.all s k.middle ps k.front alike k.to k.first holding is.0 h.1.0
    x.reply.read refl a.does in
    before-part number x xs kept h.0 kept' s k.middle t ps a.page_is o
    (in-part law number xs h.0 kept' k.middle t o.pins k.back o.alike k.from k.rest o.holding is.1 h.2)

-- the whole of a drill's steps, and its last part
abbrev pub LastPartIsTrue : Type 0
LastPartIsTrue =
    (size number : ℕ) (before part : List Exchange) (kept : drill.Kept) (s t : State) (steps : List Step)
    → AreExchanged drills (begun size) (before ++ part) kept → BeginsAnew before → IsPart part
    → IsSound s → IsRun s steps t → events_of steps ≡ calls_in drills (before ++ part)
    → (own : List talking.Exchange) × AreOwn number part own × AreTrue t.history size own

pub last-part : DialoguesAreTrue → RunsStaySound → PinsStay → LastPartIsTrue
last-part dialogues sound_law pins size number before part kept s t steps h anew is sound run made =
    let r = exchanged-parts drills (begun size) kept before part h in
    let none : AreNone r.0.all = none-open size before r.0 anew r.1 in
    let page : r.0.page ≡ size = page-stays (begun size) r.0 before r.1 in
    let k : Halves s t steps (calls_in drills before) (calls_in drills part) =
    halves s t steps (calls_in drills before) (calls_in drills part) run (made ∙ calls-parts drills before part) in
    let m : State = k.middle in
    let there : IsSound m = sound_law s m k.front k.to sound in
    let p : InPart number part r.0 kept m m.pins t =
    in-part pins number part r.0 kept m t m.pins k.back refl k.from k.rest
    (λ n. subst (λ (standing : Standing). AreHeld (IsHeld m.pins n) standing.cursors) (sym (none n)) tt) is r.2 in (
      p.dialogue,
      p.are,
      dialogues m (with_pins t p.pins) p.own (λ o. o == number) size p.dialogue [] (kept_by number kept) there p.run
          p.calm (sym p.calls ∙ sym (append-nil (calls_in sessions p.dialogue)))
          (subst (λ (n : ℕ). AreExchanged sessions (record { page = n; standing = nothing_kept }) p.dialogue
          (kept_by number kept)) page
          (subst (λ (k : Standing). AreExchanged sessions (record { page = r.0.page; standing = k }) p.dialogue
          (kept_by number kept)) (none number) p.exchanged)),
    )
