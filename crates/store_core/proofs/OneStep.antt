-- One call of the only caller is one step of its run.
use Rattle.std.proofs.Common.{◌≡◌, ◌&&◌, ◌∙◌, ap, cond, List, [], ◌∷◌, subst, sym, true, ℕ}
use Rattle.store_machine.specs.Machine.{Gives}
use Rattle.store_machine.specs.Runs.{IsCalm, IsRun, calls_of, is_call}
use Rattle.store_machine.specs.declared.machine.Event.{Event}
use Rattle.store_machine.specs.declared.machine.Event.TheVariants as event
use Rattle.store_machine.specs.declared.machine.Reply.{Reply}
use Rattle.store_machine.specs.declared.machine.Reply.TheVariants as reply
use Rattle.store_machine.specs.declared.machine.State.{State}
use Rattle.store_machine.specs.declared.machine.Step.{Step}
use Rattle.store_core.specs.Calls.{Calls}
use Rattle.store_core.specs.Stored.{StoreTerm, Stretches}
use Rattle.store_core.specs.declared.words.Change.TheVariants as asked

pub record OneStep (s : State) (e : Event) (r : Reply) (t : State) : Type 0 where
  pub owner : ℕ
  pub gives : Gives s owner e r t

no-call : {X : Type 0} {x : X} {xs : List X} → [] ≡ x ∷ xs → ⊥
no-call e = cc

two-calls : {X : Type 0} {x y z : X} {xs : List X} → x ∷ (y ∷ xs) ≡ z ∷ [] → ⊥
two-calls e = cc

same-call : {X : Type 0} {x y : X} → x ∷ [] ≡ y ∷ [] → x ≡ y
same-call e = cc

own-call : (x : Step) (rest : List (Event × Reply)) → is_call x.event ≡ true
    → cond (is_call x.event && true) ((x.event, x.reply) ∷ rest) rest ≡ (x.event, x.reply) ∷ rest
own-call x rest e = ap (λ b. cond (b && true) ((x.event, x.reply) ∷ rest) rest) e

one-step : (steps : List Step) (s t : State) (e : Event) (r : Reply) → IsRun s steps t → IsCalm steps
    → calls_of (λ _. true) steps ≡ (e, r) ∷ [] → OneStep s e r t
one-step [] s t e r run calm own = absurd (no-call own)
one-step (x ∷ []) s t e r run calm own =
    let call : (x.event, x.reply) ≡ (e, r) = same-call (sym (own-call x [] calm.0) ∙ own) in
    let gives : Gives s x.owner x.event x.reply t =
    subst (λ (b : State). Gives b x.owner x.event x.reply t) run.0
    (subst (λ (a : State). Gives x.before x.owner x.event x.reply a) (sym run.2) run.1) in
    record { owner = x.owner; gives = subst (λ (p : Event × Reply). Gives s x.owner p.0 p.1 t) call gives }
one-step (x ∷ (y ∷ zs)) s t e r run calm own =
    let rest = calls_of (λ _. true) zs in
    let both : calls_of (λ _. true) (x ∷ (y ∷ zs)) ≡ (x.event, x.reply) ∷ ((y.event, y.reply) ∷ rest) =
    own-call x (calls_of (λ _. true) (y ∷ zs)) calm.0
    ∙ ap (λ (l : List (Event × Reply)). (x.event, x.reply) ∷ l) (own-call y rest calm.1.0) in
    absurd (two-calls (sym both ∙ own))

pub step-of : (old new : StoreTerm) (s : State) (e : Event) (r : Reply)
    → (c : Calls Stretches (λ _. true) old new s ((e, r) ∷ [])) → OneStep s e r c.after
step-of old new s e r c = one-step c.steps s c.after e r c.stands.run c.stands.calm c.own
