use Rattle.std.proofs.Common.{refl, sym}
use Rattle.store_core.specs.Replies.{looked}
use Rattle.store_machine.specs.declared.machine.Event.TheVariants.{Look}
use Rattle.store_machine.specs.declared.machine.Reply.TheVariants.{Looked}
use Rattle.store_disk.proofs.Rows.{lifted-call, ready-after}
use Rattle.store_disk.proofs.store.StoreService.look.Goals as goal

pub invariant_of-self : goal.invariant_of-self
invariant_of-self g c =
    ready-after c.laws.ensures.serve (Look c.args.id) (λ l. Looked (looked l))
    c.look.result tt c.look.ensures.worn.1 c.self.inside.memory c.look.new.self c.self.inside.pair _ c.look.ensures.call
    c.self.invariant

pub returns-clause-call : goal.returns-clause-call
returns-clause-call g c =
    let d = g.D.Disk.model in
    rw (sym c.self.view_is)
    (λ s h. lifted-call d g.met.D.Disk.only_now c.laws.ensures.sound c.laws.ensures.heads _
    c.laws.ensures.leaves c.look.new.self s h c.laws.ensures.serve
    (Look c.args.id) (λ l. Looked (looked l))
    refl tt c.look.result c.look.ensures.worn.1 c.look.ensures.call)

pub returns-clause-held : goal.returns-clause-held
returns-clause-held g c = rw (sym c.self.view_is) c.look.ensures.held
