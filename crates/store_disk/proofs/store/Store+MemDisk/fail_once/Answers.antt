use Rattle.std.proofs.Common.{Some, sym}
use Rattle.disk_pair.specs.declared.choice.Which.TheVariants.{First}
use Rattle.store_disk.proofs.InMemory.{once-set}
use Rattle.store_disk.proofs.store.Store+MemDisk.fail_once.Goals as goal

pub returns-clause-stands : goal.returns-clause-stands
returns-clause-stands c =
    rw (sym c.self.view_is, c.fail_once.ensures) (λ s h. once-set First _ (Some c.args.call) s h)
