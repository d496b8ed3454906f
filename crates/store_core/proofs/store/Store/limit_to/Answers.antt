use Rattle.std.proofs.Common.{sym}
use Rattle.store_core.specs.Stored.{Served}
use Rattle.store_core.proofs.Limits.{relimited}
use Rattle.store_core.proofs.store.Store.limit_to.Goals as goal

pub invariant_of-self : goal.invariant_of-self
invariant_of-self c =
    let s : Served = c.self.invariant.0 in
    (record s { limit = c.args.commits }, relimited _ s c.args.commits c.requires c.self.invariant.1)

pub returns-clause-stands : goal.returns-clause-stands
returns-clause-stands c = rw (sym c.self.view_is) (λ s h. relimited _ s c.args.commits c.requires h)
