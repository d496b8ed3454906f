use Rattle.std.proofs.Common.{refl, sym}
use Rattle.store_machine.specs.declared.machine.Event.TheVariants.{Stats}
use Rattle.store_machine.specs.declared.machine.Reply.TheVariants.{Counted}
use Rattle.store_disk.proofs.Rows.{lifted-call, ready-after}
use Rattle.store_disk.proofs.store.StoreService.stats.Goals as goal

pub invariant_of-self : goal.invariant_of-self
invariant_of-self g c =
    ready-after c.laws.ensures.serve Stats (λ n. Counted n.version n.live n.withdrawn n.kept n.pins)
    c.stats.result tt c.stats.ensures.worn.1 c.self.inside.memory c.stats.new.self c.self.inside.pair _
    c.stats.ensures.call c.self.invariant

pub returns-clause-call : goal.returns-clause-call
returns-clause-call g c =
    let d = g.D.Disk.model in
    rw (sym c.self.view_is)
    (λ s h. lifted-call d g.met.D.Disk.only_now c.laws.ensures.sound c.laws.ensures.heads _
    c.laws.ensures.leaves c.stats.new.self s h c.laws.ensures.serve
    Stats (λ n. Counted n.version n.live n.withdrawn n.kept n.pins)
    refl tt c.stats.result c.stats.ensures.worn.1 c.stats.ensures.call)

pub returns-clause-held : goal.returns-clause-held
returns-clause-held g c = rw (sym c.self.view_is) c.stats.ensures.held
