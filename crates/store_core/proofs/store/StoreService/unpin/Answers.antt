use Rattle.std.proofs.Common.{Contains, refl, subst, sym}
use Rattle.store_machine.specs.declared.machine.Event.TheVariants.{Unpin}
use Rattle.store_machine.specs.declared.machine.Reply.TheVariants.{Unpinned}
use Rattle.store_core.specs.Stored.{StoreTerm, alone, served}
use Rattle.store_core.proofs.OneCall.{at-alone, one-call}
use Rattle.store_core.proofs.Rows.{others-held, unpin-given}
use Rattle.store_core.proofs.store.StoreService.unpin.Goals as goal

held : (c : goal.After-unpin) → Contains c.self.inside.registry c.args.pin
held c = subst (λ (x : StoreTerm). Contains x.pins c.args.pin) (sym c.self.view_is) c.requires.held

pub invariant_of-self : goal.invariant_of-self
unfolding held
invariant_of-self c =
    let s = alone c.self.invariant.0 in
    let g = unpin-given c.laws.ensures.sound _ s c.args.pin c.unpin.new.self
    (at-alone _ c.self.invariant.0 c.self.invariant.1) (held c) c.unpin.ensures in
    (served g.after, g.stands.stands)

pub returns-clause-call : goal.returns-clause-call
returns-clause-call c =
    rw (sym c.self.view_is)
    (λ s h.
    let g = unpin-given c.laws.ensures.sound _ s c.args.pin c.unpin.new.self h (held c) c.unpin.ensures in
    one-call _ _ s g.after g.owner (Unpin c.args.pin.slot) Unpinned refl h g.gives g.stands)

pub returns-clause-held : goal.returns-clause-held
returns-clause-held c = rw (sym c.self.view_is)
    (rw c.unpin.ensures (λ slot version. others-held c.args.pin slot version c.self.inside.registry))
