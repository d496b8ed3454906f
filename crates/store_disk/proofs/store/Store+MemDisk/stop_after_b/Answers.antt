use Rattle.std.proofs.Common.{Some, sym}
use Rattle.disk_pair.specs.declared.choice.Which.TheVariants.{Second}
use Rattle.store_disk.proofs.InMemory.{passes-set}
use Rattle.store_disk.proofs.store.Store+MemDisk.stop_after_b.Goals as goal

pub returns-clause-stands : goal.returns-clause-stands
returns-clause-stands c =
    rw (sym c.self.view_is, c.stop_after.ensures) (λ s h. passes-set Second _ (Some c.args.calls) s h)
