use Rattle.store_disk.proofs.NoJournal.{new-ready, new-stands}
use Rattle.store_disk.proofs.store.Store+NoDisk.in_memory.Goals as goal

pub invariant_of-result : goal.invariant_of-result
invariant_of-result c =
    rw (c.new.ensures, c.at_gate.ensures) (new-ready c.fresh.result c.args.commits c.fresh.ensures)

pub returns : goal.returns
returns c = rw (c.new.ensures, c.at_gate.ensures) (new-stands c.fresh.result c.args.commits c.fresh.ensures)
