-- A commit that was acknowledged as commit k is commit k of the history.
use Rattle.std.proofs.Common.{◌≡◌, ◌+◌, ◌∙◌, ap, arith, List, [], ◌∷◌, subst, ℕ}
use Rattle.store_machine.specs.History.{grown, head}
use Rattle.store_machine.specs.Machine.{Gives}
use Rattle.store_machine.specs.Told.{CommitsStand, acknowledged}
use Rattle.store_machine.specs.declared.machine.Change.{Change}
use Rattle.store_machine.specs.declared.machine.Event.{Event}
use Rattle.store_machine.specs.declared.machine.Event.TheVariants.{Commit}
use Rattle.store_machine.specs.declared.machine.History.{History}
use Rattle.store_machine.specs.declared.machine.Reply.{Reply}
use Rattle.store_machine.specs.declared.machine.Reply.TheVariants.{Committed}
use Rattle.store_machine.specs.declared.machine.State.{State}
use Rattle.store_machine.specs.declared.machine.Step.{Step}
use Rattle.store_machine.proofs.Cuts.{called}
use Rattle.store_machine.proofs.Growing.{grown-twice, runs-add}

makes : (s : State) (owner : ℕ) (e : Event) (r : Reply) (t : State) (c : Change) (k : ℕ) → e ≡ Commit c
    → r ≡ Committed k → Gives s owner e r t
    → (k ≡ head s.history + 1) × (t.history ≡ grown s.history (c ∷ []))
makes s owner e r t c k is answered g =
    let row = subst (λ (y : Reply). Gives s owner (Commit c) y t) answered
    (subst (λ (x : Event). Gives s owner x r t) is g) in
    (row.1.1, ap (λ (x : State). x.history) row.1.2)

pub commits-stand : CommitsStand
commits-stand s s' steps own c k before later run calm e =
    let a = called own s s' steps before (Commit c, Committed k) later run calm e in
    let x : Step = a.step in
    let made = makes x.before x.owner x.event x.reply x.after c k a.event a.reply a.is in
    let more = acknowledged a.back in
    let all : s'.history ≡ grown x.before.history (c ∷ more) =
    runs-add x.after s' a.back a.from a.calm_from
    ∙ (ap (λ (h : History). grown h more) made.1 ∙ grown-twice x.before.history (c ∷ []) more) in
    let version : s'.history.version ≡ x.before.history.version = ap (λ (h : History). h.version) all in (
      x.before.history.commits,
      more,
      ap (λ (h : History). h.commits) all,
      omega (arith, made.0, version),
    )
