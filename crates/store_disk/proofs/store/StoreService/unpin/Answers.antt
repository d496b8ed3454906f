use Rattle.std.proofs.Common.{refl, sym}
use Rattle.store_machine.specs.declared.machine.Event.TheVariants.{Unpin}
use Rattle.store_machine.specs.declared.machine.Reply.TheVariants.{Unpinned}
use Rattle.store_disk.proofs.Rows.{lifted-call, ready-after}
use Rattle.store_disk.proofs.store.StoreService.unpin.Goals as goal

pub invariant_of-self : goal.invariant_of-self
invariant_of-self g c =
    ready-after c.laws.ensures.serve (Unpin c.args.pin.slot) (λ _. Unpinned)
    c.unpin.result tt c.unpin.ensures.worn.1 c.self.inside.memory c.unpin.new.self c.self.inside.pair _
    c.unpin.ensures.call c.self.invariant

pub returns-clause-call : goal.returns-clause-call
returns-clause-call g c =
    let d = g.D.Disk.model in
    rw (sym c.self.view_is)
    (λ s h. lifted-call d g.met.D.Disk.only_now c.laws.ensures.sound c.laws.ensures.heads _
    c.laws.ensures.leaves c.unpin.new.self s h c.laws.ensures.serve
    (Unpin c.args.pin.slot) (λ _. Unpinned)
    refl tt c.unpin.result c.unpin.ensures.worn.1 c.unpin.ensures.call)

pub returns-clause-held : goal.returns-clause-held
returns-clause-held g c = rw (sym c.self.view_is) c.unpin.ensures.held
