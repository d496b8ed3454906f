use Rattle.std.proofs.Common.{refl, sym}
use Rattle.store_core.specs.Replies.{pin_reply}
use Rattle.store_machine.specs.declared.machine.Event.TheVariants.{Pin}
use Rattle.store_disk.proofs.Rows.{lifted-call, ready-after}
use Rattle.store_disk.proofs.store.StoreService.pin.Goals as goal

pub invariant_of-self : goal.invariant_of-self
invariant_of-self g c =
    ready-after c.laws.ensures.serve Pin pin_reply
    c.pin.result tt c.pin.ensures.worn.1 c.self.inside.memory c.pin.new.self c.self.inside.pair _ c.pin.ensures.call
    c.self.invariant

pub returns-clause-call : goal.returns-clause-call
returns-clause-call g c =
    let d = g.D.Disk.model in
    rw (sym c.self.view_is)
    (λ s h. lifted-call d g.met.D.Disk.only_now c.laws.ensures.sound c.laws.ensures.heads _
    c.laws.ensures.leaves c.pin.new.self s h c.laws.ensures.serve
    Pin pin_reply
    refl tt c.pin.result c.pin.ensures.worn.1 c.pin.ensures.call)

pub returns-clause-held : goal.returns-clause-held
returns-clause-held g c = rw (sym c.self.view_is) c.pin.ensures.held

pub returns-clause-apart : goal.returns-clause-apart
returns-clause-apart g c = rw (sym c.self.view_is) c.pin.ensures.apart
