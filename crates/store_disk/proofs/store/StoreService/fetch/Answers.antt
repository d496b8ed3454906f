use Rattle.std.proofs.Common.{refl, sym}
use Rattle.store_core.specs.Records.{founds}
use Rattle.store_core.specs.Stored.{alone, served}
use Rattle.store_machine.specs.declared.machine.Event.TheVariants.{Fetch}
use Rattle.store_machine.specs.declared.machine.Reply.TheVariants.{Page}
use Rattle.store_disk.proofs.Lifts.{at-alone}
use Rattle.store_disk.proofs.Rows.{lifted-call, ready-after}
use Rattle.store_disk.proofs.store.StoreService.fetch.Goals as goal

pub invariant_of-self : goal.invariant_of-self
invariant_of-self g c =
    ready-after c.laws.ensures.serve (Fetch c.args.pin.now.slot c.args.want.now c.args.from c.args.limit)
    (λ last. Page (founds c.fetch.new.page.records) last)
    c.fetch.result tt c.fetch.ensures.worn.1 c.self.inside.memory c.fetch.new.self c.self.inside.pair _
    c.fetch.ensures.call c.self.invariant

pub returns-clause-call : goal.returns-clause-call
returns-clause-call g c =
    let d = g.D.Disk.model in
    rw (sym c.self.view_is)
    (λ s h. lifted-call d g.met.D.Disk.only_now c.laws.ensures.sound c.laws.ensures.heads _
    c.laws.ensures.leaves c.fetch.new.self s h c.laws.ensures.serve
    (Fetch c.args.pin.now.slot c.args.want.now c.args.from c.args.limit)
    (λ last. Page (founds c.fetch.new.page.records) last)
    refl tt c.fetch.result c.fetch.ensures.worn.1 c.fetch.ensures.call)

pub returns-clause-held : goal.returns-clause-held
returns-clause-held g c = rw (sym c.self.view_is) c.fetch.ensures.held

pub returns-clause-steps : goal.returns-clause-steps
returns-clause-steps g c = λ s h.
    let r = c.fetch.ensures.steps (alone (served s)) (at-alone c.fetch.new.self (served s) h.memory.stands) in
    record { entries = r.entries; count = r.count; apart = r.apart; each = r.each }
