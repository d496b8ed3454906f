-- A run cut at its caller's calls.
use Rattle.std.proofs.Common.{◌≡◌, ◌&&◌, ◌++◌, ◌∙◌, ap, ap₂, append-nil, Bool, cond, false, List, [], ◌∷◌, refl, sym, true, ℕ}
use Rattle.std.proofs.lemmas.Bool.{cond-false, cond-true, true≢false}
use Rattle.store_machine.specs.Runs.{IsCalm, IsRun, IsStep, calls_of, is_call, is_own}
use Rattle.store_machine.specs.declared.machine.Event.{Event}
use Rattle.store_machine.specs.declared.machine.Reply.{Reply}
use Rattle.store_machine.specs.declared.machine.State.{State}
use Rattle.store_machine.specs.declared.machine.Step.{Step}
use Rattle.store_machine.proofs.Joins.{calls-append, calms-join, runs-join}

abbrev pub Calls : Type 0
Calls = List (Event × Reply)

call_or : Event × Reply → Calls → Event × Reply
call_or d [] = d
call_or d (c ∷ cs) = c

calls_behind : Calls → Calls
calls_behind [] = []
calls_behind (c ∷ cs) = cs

pub one_call : (c d : Event × Reply) (cs ds : Calls) → c ∷ cs ≡ d ∷ ds → c ≡ d
unfolding call_or
one_call c d cs ds e = ap (call_or c) e

same_rest : (c d : Event × Reply) (cs ds : Calls) → c ∷ cs ≡ d ∷ ds → cs ≡ ds
unfolding calls_behind
same_rest c d cs ds e = ap calls_behind e

nothing_left : (before later : Calls) (c : Event × Reply) → [] ≡ before ++ c ∷ later → ⊥
nothing_left [] later c e = cc
nothing_left (b ∷ bs) later c e = cc

-- a step in front of others, by whose it is
own_more : (own : ℕ → Bool) (x : Step) (xs : List Step) (c : Event × Reply) (cs : Calls) → is_own own x ≡ true
    → (x.event, x.reply) ≡ c → calls_of own xs ≡ cs → calls_of own (x ∷ xs) ≡ c ∷ cs
own_more own x xs c cs o e f =
    cond-true (is_own own x) ((x.event, x.reply) ∷ calls_of own xs) (calls_of own xs) o
    ∙ ap₂ (λ (d : Event × Reply) (ds : Calls). d ∷ ds) e f

other_more : (own : ℕ → Bool) (x : Step) (xs : List Step) (cs : Calls) → is_own own x ≡ false → calls_of own xs ≡ cs
    → calls_of own (x ∷ xs) ≡ cs
other_more own x xs cs o f =
    cond-false (is_own own x) ((x.event, x.reply) ∷ calls_of own xs) (calls_of own xs) o ∙ f

-- a calm run of a caller, up to some of its calls and from them on
pub record Halves (own : ℕ → Bool) (s t : State) (xs ys : Calls) : Type 0 where
  pub middle : State
  pub front : List Step
  pub back : List Step
  pub to : IsRun s front middle
  pub from : IsRun middle back t
  pub calm_to : IsCalm front
  pub calm_from : IsCalm back
  pub first_calls : calls_of own front ≡ xs
  pub last_calls : calls_of own back ≡ ys

-- a step more in front
halves_more : (own : ℕ → Bool) (x : Step) (s t : State) (xs more ys : Calls) → x.before ≡ s → IsStep x
    → is_call x.event ≡ true → ((steps : List Step) → calls_of own steps ≡ xs → calls_of own (x ∷ steps) ≡ more)
    → Halves own x.after t xs ys → Halves own s t more ys
halves_more own x s t xs more ys here is calm calls k = record {
  middle = k.middle;
  front = x ∷ k.front;
  back = k.back;
  to = (here, is, k.to);
  from = k.from;
  calm_to = (calm, k.calm_to);
  calm_from = k.calm_from;
  first_calls = calls k.front k.first_calls;
  last_calls = k.last_calls;
}

pub halves : (own : ℕ → Bool) (s t : State) (steps : List Step) (xs ys : Calls) → IsRun s steps t → IsCalm steps
    → calls_of own steps ≡ xs ++ ys → Halves own s t xs ys
halves own s t steps [] ys run calm e = record {
  middle = s;
  front = [];
  back = steps;
  to = refl;
  from = run;
  calm_to = tt;
  calm_from = calm;
  first_calls = refl;
  last_calls = e;
}
halves own s t [] (c ∷ cs) ys run calm e = absurd (nothing_left [] (cs ++ ys) c e)
halves own s t (x ∷ xs) (c ∷ cs) ys run calm e =
    elim (is_own own x) as (λ b. is_own own x ≡ b
    → cond b ((x.event, x.reply) ∷ calls_of own xs) (calls_of own xs) ≡ c ∷ (cs ++ ys)
    → Halves own s t (c ∷ cs) ys) [
      | true ↦ λ o i.
          halves_more own x s t cs (c ∷ cs) ys run.0 run.1 calm.0
          (λ l f. own_more own x l c cs o (one_call (x.event, x.reply) c (calls_of own xs) (cs ++ ys) i) f)
          (halves own x.after t xs cs ys run.2 calm.1
          (same_rest (x.event, x.reply) c (calls_of own xs) (cs ++ ys) i))
      | false ↦ λ o i.
          halves_more own x s t (c ∷ cs) (c ∷ cs) ys run.0 run.1 calm.0 (λ l f. other_more own x l (c ∷ cs) o f)
          (halves own x.after t xs (c ∷ cs) ys run.2 calm.1 i)
    ] refl e

-- a calm run of a caller, with the step of one of its calls: the steps before it and those after it
pub record Called (own : ℕ → Bool) (s t : State) (before : Calls) (c : Event × Reply) (later : Calls) : Type 0 where
  pub front : List Step
  pub step : Step
  pub back : List Step
  pub to : IsRun s front step.before
  pub is : IsStep step
  pub from : IsRun step.after back t
  pub calm_to : IsCalm front
  pub calm : is_call step.event ≡ true
  pub calm_from : IsCalm back
  pub by : own step.owner ≡ true
  pub event : step.event ≡ c.0
  pub reply : step.reply ≡ c.1
  pub first_calls : calls_of own front ≡ before
  pub last_calls : calls_of own back ≡ later

-- a calm run whose first call is this
begins : (own : ℕ → Bool) (s t : State) (steps : List Step) (c : Event × Reply) (later : Calls) → IsRun s steps t
    → IsCalm steps → calls_of own steps ≡ c ∷ later → Called own s t [] c later
begins own s t [] c later run calm e = absurd (nothing_left [] later c e)
begins own s t (x ∷ xs) c later run calm e =
    elim (is_own own x) as (λ b. is_own own x ≡ b
    → cond b ((x.event, x.reply) ∷ calls_of own xs) (calls_of own xs) ≡ c ∷ later → Called own s t [] c later) [
      | true ↦ λ o i.
          let same : (x.event, x.reply) ≡ c = one_call (x.event, x.reply) c (calls_of own xs) later i in
          record {
            front = [];
            step = x;
            back = xs;
            to = run.0;
            is = run.1;
            from = run.2;
            calm_to = tt;
            calm = calm.0;
            calm_from = calm.1;
            by = both_own (is_call x.event) (own x.owner) o;
            event = ap (λ d. d.0) same;
            reply = ap (λ d. d.1) same;
            first_calls = refl;
            last_calls = same_rest (x.event, x.reply) c (calls_of own xs) later i;
          }
      | false ↦ λ o i.
          let k = begins own x.after t xs c later run.2 calm.1 i in
          record {
            front = x ∷ k.front;
            step = k.step;
            back = k.back;
            to = (run.0, run.1, k.to);
            is = k.is;
            from = k.from;
            calm_to = (calm.0, k.calm_to);
            calm = k.calm;
            calm_from = k.calm_from;
            by = k.by;
            event = k.event;
            reply = k.reply;
            first_calls = other_more own x k.front [] o k.first_calls;
            last_calls = k.last_calls;
          }
    ] refl e
  where
    both_own : (a b : Bool) → (a && b) ≡ true → b ≡ true
    both_own true b h = h
    both_own false b h = absurd (true≢false (sym h))

pub called : (own : ℕ → Bool) (s t : State) (steps : List Step) (before : Calls) (c : Event × Reply) (later : Calls)
    → IsRun s steps t → IsCalm steps → calls_of own steps ≡ before ++ c ∷ later → Called own s t before c later
called own s t steps before c later run calm e =
    let a = halves own s t steps before (c ∷ later) run calm e in
    let k = begins own a.middle t a.back c later a.from a.calm_from a.last_calls in
    record {
      front = a.front ++ k.front;
      step = k.step;
      back = k.back;
      to = runs-join a.front k.front s a.middle k.step.before a.to k.to;
      is = k.is;
      from = k.from;
      calm_to = calms-join a.front k.front a.calm_to k.calm_to;
      calm = k.calm;
      calm_from = k.calm_from;
      by = k.by;
      event = k.event;
      reply = k.reply;
      first_calls = calls-append own a.front k.front
          ∙ (ap₂ (λ (xs ys : Calls). xs ++ ys) a.first_calls k.first_calls ∙ append-nil before);
      last_calls = k.last_calls;
    }
