-- Parts of runs, and the calls in them.
use Rattle.std.proofs.Common.{◌≡◌, ◌++◌, ◌&&◌, ◌∙◌, ap, arith, Bool, if◌then◌else◌, length, length-append, List, [], ◌∷◌, map, refl, sym, true}
use Rattle.store_machine.specs.Runs.{IsCalm, IsRun, calls_of}
use Rattle.store_machine.specs.declared.machine.Event.{Event}
use Rattle.store_machine.specs.declared.machine.Reply.{Reply}
use Rattle.store_machine.specs.declared.machine.State.{State}
use Rattle.store_machine.specs.declared.machine.Step.{Step}
use Rattle.hall.specs.Histories.{after}

abbrev pub call_of : Step → Event × Reply
call_of x = (x.event, x.reply)

-- where a run ends
pub run-ends : (xs : List Step) (s t : State) → IsRun s xs t → t ≡ after s xs
run-ends [] s t r = r
run-ends (x ∷ xs) s t r = run-ends xs x.after t r.2

-- the beginning of a run is a run, and so is the rest
pub run-parts : (xs ys : List Step) (s u : State) → IsRun s (xs ++ ys) u
    → IsRun s xs (after s xs) × IsRun (after s xs) ys u
run-parts [] ys s u r = (refl, r)
run-parts (x ∷ xs) ys s u r = let p = run-parts xs ys x.after u r.2 in ((r.0, r.1, p.0), p.1)

pub calm-parts : (xs ys : List Step) → IsCalm (xs ++ ys) → IsCalm xs × IsCalm ys
calm-parts [] ys c = (tt, c)
calm-parts (x ∷ xs) ys c = let p = calm-parts xs ys c.1 in ((c.0, p.0), p.1)

pub after-append : (xs ys : List Step) (s : State) → after s (xs ++ ys) ≡ after (after s xs) ys
after-append [] ys s = refl
after-append (x ∷ xs) ys s = after-append xs ys x.after

pub one-more : (xs : List Step) (y : Step) → xs ++ y ∷ [] ≡ [] → ⊥
one-more xs y e = let n = ap length e in let m = length-append xs (y ∷ []) in omega (arith, n, m)

-- in a part without a crash every step is a call
pub calls-all : (xs : List Step) → IsCalm xs → calls_of (λ _. true) xs ≡ map call_of xs
calls-all [] c = refl
calls-all (x ∷ xs) c =
    ap (λ (b : Bool). if b && true then call_of x ∷ calls_of (λ _. true) xs else calls_of (λ _. true) xs) c.0
    ∙ ap (λ (l : List (Event × Reply)). call_of x ∷ l) (calls-all xs c.1)

single-call : (xs : List Step) (p : Event × Reply) → map call_of xs ≡ p ∷ []
    → (x : Step) × (xs ≡ x ∷ []) × (call_of x ≡ p)
single-call [] p e = let n = ap length e in absurd (omega arith)
single-call (x ∷ []) p e = (x, refl, cc e)
single-call (x ∷ y ∷ ys) p e = let n = ap length e in absurd (omega arith)

-- one call is one step
pub one-step : (xs : List Step) (p : Event × Reply) → IsCalm xs → calls_of (λ _. true) xs ≡ p ∷ []
    → (x : Step) × (xs ≡ x ∷ []) × (call_of x ≡ p)
one-step xs p calm e = single-call xs p (sym (calls-all xs calm) ∙ e)
