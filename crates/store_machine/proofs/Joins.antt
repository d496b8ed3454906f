-- Runs that follow each other are one, and so are their calls.
use Rattle.std.proofs.Common.{◌≡◌, ◌&&◌, ◌++◌, ap, ap₂, Bool, false, if◌then◌else◌, List, [], ◌∷◌, refl, subst, true, ℕ}
use Rattle.store_machine.specs.Runs.{CalmsJoin, IsRun, RunsJoin, calls_of, is_call, is_own}
use Rattle.store_machine.specs.declared.machine.Event.{Event}
use Rattle.store_machine.specs.declared.machine.Reply.{Reply}
use Rattle.store_machine.specs.declared.machine.Step.{Step}

pub runs-join : RunsJoin
runs-join [] ys s t u e r = subst (λ k. IsRun k ys u) e r
runs-join (x ∷ xs) ys s t u r q = (r.0, r.1, runs-join xs ys x.after t u r.2 q)

pub calms-join : CalmsJoin
calms-join [] ys a b = b
calms-join (x ∷ xs) ys a b = (a.0, calms-join xs ys a.1 b)

chosen : (b : Bool) (c : Event × Reply) (xs ys zs : List (Event × Reply)) → zs ≡ xs ++ ys
    → (if b then c ∷ zs else zs) ≡ (if b then c ∷ xs else xs) ++ ys
chosen true c xs ys zs e = ap (λ l. c ∷ l) e
chosen false c xs ys zs e = e

pub calls-append : (own : ℕ → Bool) (xs ys : List Step) → calls_of own (xs ++ ys) ≡ calls_of own xs ++ calls_of own ys
calls-append own [] ys = refl
calls-append own (x ∷ xs) ys =
    chosen (is_own own x) (x.event, x.reply) (calls_of own xs) (calls_of own ys) (calls_of own (xs ++ ys))
    (calls-append own xs ys)

chosen_alike : (a b : Bool) (c : Event × Reply) (xs ys : List (Event × Reply)) → a ≡ b → xs ≡ ys
    → (if a then c ∷ xs else xs) ≡ (if b then c ∷ ys else ys)
chosen_alike a b c xs ys e f = ap₂ (λ (u : Bool) (l : List (Event × Reply)). if u then c ∷ l else l) e f

-- the same calls are those of numbers that are the same
pub calls-same : (own own' : ℕ → Bool) → ((n : ℕ) → own' n ≡ own n) → (xs : List Step) → calls_of own' xs ≡ calls_of own xs
calls-same own own' h [] = refl
calls-same own own' h (x ∷ xs) =
    chosen_alike (is_own own' x) (is_own own x) (x.event, x.reply) (calls_of own' xs) (calls_of own xs)
    (ap (λ b. is_call x.event && b) (h x.owner)) (calls-same own own' h xs)
