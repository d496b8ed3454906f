use Rattle.std.proofs.Common.{arith, sym}
use Rattle.std.specs.FinMap.{entries}
use Rattle.store_machine.specs.Machine.{is_live, now}
use Rattle.store_core.specs.Stored.{alone, served}
use Rattle.store_core.proofs.Counts.{count-both}
use Rattle.store_core.proofs.store.Store.states.Goals as goal

pub returns-clause-count : goal.returns-clause-count
returns-clause-count c =
    rw (sym c.self.view_is)
    (λ s h. omega (arith, h.live, h.withdrawn, count-both is_live (entries (now (alone (served s))))))
