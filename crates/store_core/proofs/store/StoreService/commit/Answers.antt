use Rattle.std.proofs.Common.{ap, [], ◌∷◌, subst, sym, true, ℕ}
use Rattle.store_machine.specs.declared.machine.Event.TheVariants.{Commit}
use Rattle.store_machine.specs.declared.machine.Reply.TheVariants.{Committed}
use Rattle.store_core.specs.Calls.{Calls}
use Rattle.store_core.specs.Replies.{change_of}
use Rattle.store_core.specs.Stored.{StoreTerm, Stretches, served}
use Rattle.store_core.proofs.Advances.{committed-row, refused-result}
use Rattle.store_core.proofs.store.StoreService.commit.Goals as goal

pub returns-in_err-prepare-clause-call : goal.returns-in_err-prepare-clause-call
returns-in_err-prepare-clause-call c =
    λ s h. refused-result c.args.self.now c.prepare.new.self s c.args.change _ c.from_residual.result
    c.from_residual.ensures.1 (c.prepare.ensures.stands (served s) h.stands) h (c.in_err-prepare.ensures.why s h.stands)

pub returns-clause-call : goal.returns-clause-call
returns-clause-call c =
    λ s h.
    let stands = c.prepare.ensures.stands (served s) h.stands in
    subst (λ (n : ℕ). Calls Stretches (λ _. true) c.args.self.now c.make.new.self s
    ((Commit (change_of c.args.change), Committed n) ∷ [])) (sym (ap (λ (x : StoreTerm). x.version) c.self.view_is))
    (committed-row c.args.self.now c.make.new.self s c.args.change h
    (c.in_ok-prepare.ensures.prepared.may_add s stands) (c.make.ensures.committed s stands))
