-- One line of a drill, its steps with the number of its session: the pins of all sessions' cursors are held under the
-- sessions' numbers, before it and after it.
use Rattle.std.proofs.Common.{◌≡◌, ◌+◌, ◌==◌, ◌⊎◌, ◌++◌, ◌∙◌, ap, eq-eqb, eqb-true, false, inl, inr, length, List, [], ◌∷◌, None, Option, refl, Some, subst, sym, true, ℕ}
use Rattle.std.proofs.lemmas.Bool.{true≢false}
use Rattle.io_edge.specs.Lines.{TextLine, Whole}
use Rattle.session_acts.specs.Acts.{Lines, RequestAnswer}
use Rattle.session_acts.specs.Cursors.{Calls}
use Rattle.session_acts.specs.Talking as session
use Rattle.session_acts.specs.Pins.{AreApart, AreHeld, HeldAfter}
use Rattle.session_acts.specs.Requests.{Request, request_of}
use Rattle.session_acts.specs.Watching.{Standing}
use Rattle.session_acts.proofs.ActPins.{all_held}
use Rattle.shell_lang.specs.Command.{TakesLines}
use Rattle.shell_lang.specs.Reply.{text_of}
use Rattle.store_machine.specs.Laws.{PinsStay}
use Rattle.store_machine.specs.Runs.{IsCalm, IsRun, calls_of}
use Rattle.store_machine.specs.declared.machine.Held.{Held}
use Rattle.store_machine.specs.declared.machine.State.{State}
use Rattle.store_machine.specs.declared.machine.Step.{Step}
use Rattle.drill_run.specs.Acts as drill
use Rattle.drill_run.specs.Acts.{AllKept, Does}
use Rattle.drill_run.specs.Runs.{events_of}
use Rattle.drill_run.specs.Talking.{Exchange}
use Rattle.drill_run.specs.Lines.{DrillLine, Empty, Fail, Reopen, Session, Stop}
use Rattle.drill_run.specs.Numbers.{numbered}
use Rattle.drill_run.specs.Truths.{IsOwn, IsOwnAs, IsReopen}
use Rattle.drill_run.proofs.OwnPins.{NamePins, all-named, held-under}
use Rattle.drill_run.proofs.Owners.{OwnRun, other-calls, own-calls, own-run}
use Rattle.drill_run.proofs.Parts.{its-own, of-others, of_number}
use Rattle.drill_run.proofs.Reowned.{Alike, IsHeld, with_pins}

-- each session's cursors hold their pins under its number
abbrev pub AreHolding : List Held → AllKept → Type 0
AreHolding ps all = (n : ℕ) → AreHeld (IsHeld ps n) (of_number n all).cursors

-- what a line is to the session of a number, where these are its calls
abbrev pub IsToldOf : ℕ → ℕ → Exchange → AllKept → Calls → AllKept → Type 0
IsToldOf size number x all calls between =
    ((y : session.Exchange) × IsOwnAs number x y × (y.calls ≡ calls)
    × RequestAnswer size (of_number number all) (request_of y.request) y.calls y.reply (of_number number between))
    ⊎ (¬ IsOwn number x × (calls ≡ []) × (of_number number between ≡ of_number number all))

-- the steps of a line, with its session's number
pub record OneLine (size number : ℕ) (x : Exchange) (all between : AllKept) (s : State) (ps : List Held) (t : State)
    : Type 0 where
  pub pins : List Held
  pub own : List Step
  pub run : IsRun (with_pins s ps) own (with_pins t pins)
  pub calm : IsCalm own
  pub alike : Alike t.pins pins
  pub holding : AreHolding pins between
  pub told : IsToldOf size number x all (calls_of (λ o. o == number) own) between

differ : (m n : ℕ) → (m == n) ≡ false → ¬ (m ≡ n)
differ m n e q = true≢false (sym (eq-eqb m n q) ∙ e)

pub no-event : (s t : State) (steps : List Step) → IsRun s steps t → events_of steps ≡ [] → t ≡ s
no-event s t [] run e = run
no-event s t (x ∷ xs) run e = absurd (cc e)

-- a line for which nothing is asked
silent : (size number : ℕ) (x : Exchange) (all between : AllKept) (s t : State) (ps : List Held)
    (steps : List Step) → Alike s.pins ps → IsRun s steps t → events_of steps ≡ [] → AreHolding ps all
    → between ≡ all → ¬ IsOwn number x → OneLine size number x all between s ps t
silent size number x all between s t ps steps alike run none holding same other =
    let stays : t ≡ s = no-event s t steps run none in record {
      pins = ps;
      own = [];
      run = ap (λ (y : State). with_pins y ps) stays;
      calm = tt;
      alike = subst (λ (y : State). Alike y.pins ps) (sym stays) alike;
      holding = subst (AreHolding ps) (sym same) holding;
      told = inr (other, refl, ap (λ (l : AllKept). of_number number l) same);
    }

-- a line of a session
module _ (law : PinsStay) (size number n : ℕ) (x : Exchange) (before after : AllKept)
    (kept kept' : Standing) (line : List ℕ) (lines : Lines) (s t : State) (ps : List Held)
    (steps : List Step) (alike : Alike s.pins ps) (run : IsRun s steps t) (made : events_of steps ≡ x.calls)
    (holding : AreHolding ps (before ++ kept ∷ after)) (is : n ≡ length before + 1)
    (read : x.reply.read ≡ Some (Session n line)) (alone : ¬ TakesLines line)
    (answer : RequestAnswer size kept (record { line = Whole line; more = [] }) x.calls lines kept')
    (said : x.reply.text ≡ numbered n (text_of lines)) where
  abbrev all_before : AllKept
  all_before = before ++ kept ∷ after

  abbrev all_after : AllKept
  all_after = before ++ kept' ∷ after

  held : AreHeld (IsHeld ps n) kept.cursors
  held = subst (λ (k : Standing). AreHeld (IsHeld ps n) k.cursors) (its-own n before after kept is) (holding n)

  its : OwnRun n s ps steps t
  its = own-run law n s t ps steps alike run
      (subst (NamePins (IsHeld ps n)) (sym made) (all-named (IsHeld ps n) answer.does held))

  -- its pins afterwards
  held-now : (k : OwnRun n s ps steps t) → AreHeld (IsHeld k.pins n) kept'.cursors
  held-now k =
      let then : ℕ → ℕ → Type 0 = HeldAfter (IsHeld ps n) x.calls in
      held-under then (IsHeld k.pins n) kept'.cursors
      (λ slot v h. k.now slot v (subst (λ (c : Calls). HeldAfter (IsHeld ps n) c slot v) (sym made) h))
      (all_held (IsHeld ps n) answer.does (subst (AreApart (IsHeld ps n)) made k.apart) held)

  -- and those of every session
  holding-now : (k : OwnRun n s ps steps t) → AreHolding k.pins all_after
  holding-now k m =
      elim (m == n) as (λ b. (m == n) ≡ b → AreHeld (IsHeld k.pins m) (of_number m all_after).cursors) [
        | true ↦ λ e. subst (λ (q : ℕ). AreHeld (IsHeld k.pins q) (of_number q all_after).cursors)
            (sym (eqb-true m n e))
            (subst (λ (l : Standing). AreHeld (IsHeld k.pins n) l.cursors) (sym (its-own n before after kept' is))
            (held-now k))
        | false ↦ λ e. subst (λ (l : Standing). AreHeld (IsHeld k.pins m) l.cursors)
            (sym (of-others m n before after kept kept' is (differ m n e)))
            (held-under (IsHeld ps m) (IsHeld k.pins m) (of_number m all_before).cursors
            (λ slot v h. k.others m slot v (differ m n e) h) (holding m))
      ] refl

  one-session : (a b : ℕ) (l k : List ℕ) → Some (Session a l) ≡ Some (Session b k) → a ≡ b
  one-session a b l k e = cc e

  abbrev own-exchange : Calls → session.Exchange
  own-exchange calls = record { request = Whole line ∷ []; calls = calls; reply = lines }

  own-as : (calls : Calls) → n ≡ number → IsOwnAs number x (own-exchange calls)
  own-as calls e = record {
    line = line;
    read = read ∙ ap (λ (q : ℕ). Some (Session q line)) e;
    alone = alone;
    request = refl;
    said = said ∙ ap (λ (q : ℕ). numbered q (text_of lines)) e;
  }

  own-answer : (calls : Calls) → calls ≡ x.calls → n ≡ number
      → RequestAnswer size (of_number number all_before) (record { line = Whole line; more = [] }) calls lines
      (of_number number all_after)
  own-answer calls same e =
      let request : Request = record { line = Whole line; more = [] } in
      let was : of_number number all_before ≡ kept = its-own number before after kept (sym e ∙ is) in
      let now : of_number number all_after ≡ kept' = its-own number before after kept' (sym e ∙ is) in
      subst (λ (k : Standing). RequestAnswer size k request calls lines (of_number number all_after)) (sym was)
      (subst (λ (k : Standing). RequestAnswer size kept request calls lines k) (sym now)
      (subst (λ (c : Calls). RequestAnswer size kept request c lines kept') (sym same) answer))

  told-of : (k : OwnRun n s ps steps t)
      → IsToldOf size number x all_before (calls_of (λ o. o == number) k.own) all_after
  told-of k =
      elim (n == number) as (λ b. (n == number) ≡ b
      → IsToldOf size number x all_before (calls_of (λ o. o == number) k.own) all_after) [
        | true ↦ λ e.
            let same : n ≡ number = eqb-true n number e in
            let calls = calls_of (λ o. o == number) k.own in
            inl (
              own-exchange calls,
              own-as calls same,
              refl,
              own-answer calls
                  (own-calls n number k.own same k.calm k.by ∙ (k.events ∙ made)) same,
            )
        | false ↦ λ e.
            let other : ¬ (n ≡ number) = differ n number e in
            inr (
              λ o. other (one-session n number line o.0 (sym read ∙ o.1)),
              other-calls n number k.own other k.calm k.by,
              of-others number n before after kept kept' is (λ q. other (sym q)),
            )
      ] refl

  spoken : OneLine size number x all_before all_after s ps t
  spoken = record {
    pins = its.pins;
    own = its.own;
    run = its.run;
    calm = its.calm;
    alike = its.alike;
    holding = holding-now its;
    told = told-of its;
  }

-- it is no session's line
abbrev IsNoSession : Option DrillLine → Type 0
IsNoSession (Some (Session number line)) = ⊥
IsNoSession _ = Unit {0}

not-own : (number : ℕ) (x : Exchange) (read : Option DrillLine) → x.reply.read ≡ read → IsNoSession read → ¬ IsOwn number x
not-own number x read is none o = subst IsNoSession (sym is ∙ o.1) none

one-line : (a b : ℕ) (l k : List ℕ) → Some (Session a l) ≡ Some (Session b k) → l ≡ k
one-line a b l k e = cc e

-- any line but a reopening
module _ (law : PinsStay) (size number : ℕ) (x : Exchange) (all between : AllKept) (s t : State) (ps : List Held)
    (steps : List Step) (alike : Alike s.pins ps) (run : IsRun s steps t) (made : events_of steps ≡ x.calls)
    (holding : AreHolding ps all) where
  quiet : (read : Option DrillLine) (text : List ℕ) → x.reply.read ≡ read → IsNoSession read
      → drill.Says text all x.calls x.reply.text between → OneLine size number x all between s ps t
  quiet read text is none says =
      silent size number x all between s t ps steps alike run (made ∙ says.0) holding says.2
      (not-own number x read is none)

  of-session : (n : ℕ) (line : List ℕ) → x.reply.read ≡ Some (Session n line)
      → (a : drill.IsSessionAnswer size n line all x.calls x.reply.text between) → OneLine size number x all between s ps t
  of-session n line is a = elim a.answer [
    | inl r ↦ silent size number x all between s t ps steps alike run (made ∙ r.1) holding
        (a.left ∙ (ap (λ (k : Standing). a.before ++ k ∷ a.after) r.3 ∙ sym a.place))
        (λ o. o.2 (subst TakesLines (one-line n number line o.0 (sym is ∙ o.1)) r.0))
    | inr r ↦ subst (λ (l : AllKept). OneLine size number x l between s ps t) (sym a.place)
        (subst (λ (l : AllKept). OneLine size number x (a.before ++ a.standing ∷ a.after) l s ps t) (sym a.left)
        (spoken law size number n x a.before a.after a.standing a.standing' line a.lines s t ps steps alike run made
        (subst (AreHolding ps) a.place holding) a.number_is is r.0 r.1 a.said))
  ]

  pub by-read : ¬ IsReopen x → (in_line : TextLine) (read : Option DrillLine) → x.reply.read ≡ read
      → Does size in_line read all x.calls x.reply.text between → OneLine size number x all between s ps t
  by-read stays in_line None is d = quiet None _ is tt d
  by-read stays in_line (Some Empty) is d = quiet (Some Empty) _ is tt d
  by-read stays in_line (Some (Session n line)) is d = of-session n line is d
  by-read stays in_line (Some (Stop disk calls)) is d = quiet (Some (Stop disk calls)) _ is tt d
  by-read stays in_line (Some (Fail disk call)) is d = quiet (Some (Fail disk call)) _ is tt d
  by-read stays in_line (Some (Reopen image)) is d = absurd (stays (image, is))
