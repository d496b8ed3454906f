use Rattle.std.proofs.Common.{refl, sym}
use Rattle.store_machine.specs.declared.machine.Event.TheVariants.{Pin}
use Rattle.store_core.specs.Replies.{pin_reply}
use Rattle.store_core.specs.Stored.{alone, served}
use Rattle.store_core.proofs.OneCall.{at-alone, one-call}
use Rattle.store_core.proofs.Rows.{pin-outcome}
use Rattle.store_core.proofs.store.StoreService.pin.Goals as goal

pub invariant_of-self : goal.invariant_of-self
invariant_of-self c =
    let s = alone c.self.invariant.0 in
    let o = pin-outcome c.laws.ensures.sound _ s c.pin.result c.pin.new.self
    (at-alone _ c.self.invariant.0 c.self.invariant.1) c.pin.ensures.pinned c.pin.ensures.none c.pin.ensures.free in
    (served o.after, o.stands.stands)

pub returns-clause-call : goal.returns-clause-call
returns-clause-call c =
    rw (sym c.self.view_is)
    (λ s h.
    let o = pin-outcome c.laws.ensures.sound _ s c.pin.result c.pin.new.self h c.pin.ensures.pinned c.pin.ensures.none
    c.pin.ensures.free in
    one-call _ _ s o.after 0 Pin (pin_reply c.pin.result) refl h o.gives o.stands)
