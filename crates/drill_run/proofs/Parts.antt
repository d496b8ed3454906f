-- A drill in parts, and what one session keeps.
use Rattle.std.proofs.Common.{◌≡◌, ◌+◌, ◌++◌, ◌∙◌, ap, arith, inl, inr, length, List, [], ◌∷◌, map, Option, refl, replicate, subst, suc, sym, zero, ℕ}
use Rattle.session_acts.specs.Cursors.{Calls}
use Rattle.session_acts.specs.Watching.{Standing, nothing_kept}
use Rattle.store_machine.specs.Runs.{IsRun}
use Rattle.store_machine.specs.declared.machine.Event.{Event}
use Rattle.store_machine.specs.declared.machine.Reply.{Reply}
use Rattle.store_machine.specs.declared.machine.State.{State}
use Rattle.store_machine.specs.declared.machine.Step.{Step}
use Rattle.dialogue.specs.Dialogue.{AreExchanged}
use Rattle.dialogue.proofs.Exchanges.{exchanged-parts}
use Rattle.drill_run.specs.Acts.{AllKept, Does, forgotten}
use Rattle.drill_run.specs.Lines.{DrillLine}
use Rattle.drill_run.specs.Runs.{events_of}
use Rattle.drill_run.specs.Talking.{Exchange, Kept, all_empty, begun, drills}
use Rattle.drill_run.specs.Truths.{BeginsAnew}
use Rattle.drill_run.specs.declared.line.TheConstants.{SESSIONS}

abbrev pub kept_at : ℕ → AllKept → Standing
kept_at n [] = nothing_kept
kept_at zero (k ∷ ks) = k
kept_at (suc n) (k ∷ ks) = kept_at n ks

-- what the session of a number keeps, from 1
abbrev pub of_number : ℕ → AllKept → Standing
of_number number all = kept_at number (nothing_kept ∷ all)

at-here : (before after : AllKept) (k : Standing) → kept_at (length before) (before ++ k ∷ after) ≡ k
at-here [] after k = refl
at-here (b ∷ bs) after k = at-here bs after k

at-other : (n : ℕ) (before after : AllKept) (k k' : Standing) → ¬ (n ≡ length before)
    → kept_at n (before ++ k ∷ after) ≡ kept_at n (before ++ k' ∷ after)
at-other zero [] after k k' other = absurd (other refl)
at-other zero (b ∷ bs) after k k' other = refl
at-other (suc n) [] after k k' other = refl
at-other (suc n) (b ∷ bs) after k k' other = at-other n bs after k k' (λ e. other (ap suc e))

one_more : (before : AllKept) → length before + 1 ≡ suc (length before)
one_more before = omega arith

pub its-own : (number : ℕ) (before after : AllKept) (k : Standing) → number ≡ length before + 1
    → of_number number (before ++ k ∷ after) ≡ k
its-own number before after k is =
    ap (λ (n : ℕ). of_number n (before ++ k ∷ after)) (is ∙ one_more before) ∙ at-here (nothing_kept ∷ before) after k

pub of-others : (m number : ℕ) (before after : AllKept) (k k' : Standing) → number ≡ length before + 1
    → ¬ (m ≡ number) → of_number m (before ++ k' ∷ after) ≡ of_number m (before ++ k ∷ after)
of-others m number before after k k' is other =
    at-other m (nothing_kept ∷ before) after k' k (λ e. other (e ∙ sym (is ∙ one_more before)))

-- no session keeps anything
abbrev pub AreNone : AllKept → Type 0
AreNone all = (number : ℕ) → of_number number all ≡ nothing_kept

none-at : (n k : ℕ) → kept_at n (replicate k nothing_kept) ≡ nothing_kept
none-at n zero = refl
none-at zero (suc k) = refl
none-at (suc n) (suc k) = none-at n k

none-left : (n : ℕ) (all : AllKept) → kept_at n (map (λ _. nothing_kept) all) ≡ nothing_kept
none-left n [] = refl
none-left zero (k ∷ ks) = refl
none-left (suc n) (k ∷ ks) = none-left n ks

first-none : (number : ℕ) (all : AllKept) → ((n : ℕ) → kept_at n all ≡ nothing_kept)
    → of_number number all ≡ nothing_kept
first-none zero all h = refl
first-none (suc n) all h = h n

-- behind a reopening nothing is kept
pub none-open : (size : ℕ) (before : List Exchange) (between : Kept) → BeginsAnew before
    → AreExchanged drills (begun size) before between → AreNone between.all
none-open size before between (inl e) h = λ number.
    let same : between ≡ begun size =
    subst (λ (l : List Exchange). AreExchanged drills (begun size) l between) e h in
    subst (λ (k : Kept). of_number number k.all ≡ nothing_kept) (sym same)
    (first-none number all_empty (λ n. none-at n SESSIONS))
none-open size before between (inr (front, last, e, (image, is))) h = λ number.
    let r = exchanged-parts drills (begun size) between front (last ∷ [])
    (subst (λ (l : List Exchange). AreExchanged drills (begun size) l between) e h) in
    let x = r.2.1.2 in
    let does = subst (λ (read : Option DrillLine). Does r.0.page r.2.1.0 read r.0.all last.calls last.reply.text
    r.2.0.all) is x.does in
    let same : between.all ≡ forgotten r.0.all = ap (λ (k : Kept). k.all) r.2.2 ∙ does.3 in
    subst (λ (all : AllKept). of_number number all ≡ nothing_kept) (sym same)
    (first-none number (forgotten r.0.all) (λ n. none-left n r.0.all))

-- the size of a page stays
pub page-stays : (k k' : Kept) (xs : List Exchange) → AreExchanged drills k xs k' → k'.page ≡ k.page
page-stays k k' [] h = ap (λ (x : Kept). x.page) h
page-stays k k' (x ∷ xs) h = page-stays h.0 k' xs h.2 ∙ h.1.2.page_is

-- A run cut where some events end
pub record Halves (s t : State) (steps : List Step) (xs ys : Calls) : Type 0 where
  pub middle : State
  pub front : List Step
  pub back : List Step
  pub whole : steps ≡ front ++ back
  pub to : IsRun s front middle
  pub from : IsRun middle back t
  pub first : events_of front ≡ xs
  pub rest : events_of back ≡ ys

first-call : (c d : Event × Reply) (cs ds : Calls) → c ∷ cs ≡ d ∷ ds → c ≡ d
first-call c d cs ds e = cc e

rest-calls : (c d : Event × Reply) (cs ds : Calls) → c ∷ cs ≡ d ∷ ds → cs ≡ ds
rest-calls c d cs ds e = cc e

pub halves : (s t : State) (steps : List Step) (xs ys : Calls) → IsRun s steps t → events_of steps ≡ xs ++ ys
    → Halves s t steps xs ys
halves s t steps [] ys run e = record {
  middle = s;
  front = [];
  back = steps;
  whole = refl;
  to = refl;
  from = run;
  first = refl;
  rest = e;
}
halves s t [] (x ∷ xs) ys run e = absurd (cc e)
halves s t (y ∷ steps) (x ∷ xs) ys run e =
    let c : Event × Reply = (y.event, y.reply) in
    let k = halves y.after t steps xs ys run.2 (rest-calls c x (events_of steps) (xs ++ ys) e) in
    record {
      middle = k.middle;
      front = y ∷ k.front;
      back = k.back;
      whole = ap (λ (l : List Step). y ∷ l) k.whole;
      to = (run.0, run.1, k.to);
      from = k.from;
      first = ap (λ (d : Event × Reply). d ∷ events_of k.front) (first-call c x (events_of steps) (xs ++ ys) e)
          ∙ ap (λ (l : Calls). x ∷ l) k.first;
      rest = k.rest;
    }
