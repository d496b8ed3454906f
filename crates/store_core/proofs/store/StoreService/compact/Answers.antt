use Rattle.std.proofs.Common.{refl}
use Rattle.store_machine.specs.declared.machine.Event.TheVariants.{Compact}
use Rattle.store_machine.specs.declared.machine.Reply.TheVariants.{Last}
use Rattle.store_core.proofs.OneCall.{one-call, serves}
use Rattle.store_core.proofs.store.StoreService.compact.Goals as goal

pub returns-clause-call : goal.returns-clause-call
returns-clause-call c = λ s h.
    one-call c.args.self.now c.args.self.now s s 0 Compact Last refl h
    (serves s h.serves, (h.copy, h.generation, refl)) h
