use Rattle.store_core.proofs.PruneRow.{no-copy, prune-call}
use Rattle.store_core.proofs.store.StoreService.prune.Goals as goal

pub returns-clause-call : goal.returns-clause-call
returns-clause-call c = λ s h.
    prune-call c.laws.ensures.sound c.args.self.now c.prune_but.new.self s c.prune_but.result h
    (c.prune_but.ensures.pruned s h.stands (no-copy c.args.self.now s h))
