use Rattle.std.proofs.Common.{subst}
use Rattle.store_core.specs.Stored.{StandsFor, served}
use Rattle.store_machine.specs.Machine.{MayAdd, committed}
use Rattle.store_machine.specs.declared.machine.Change.{Change}
use Rattle.store_disk.proofs.replay.add.Goals as goal

pub returns-in-Ok-prepare-clause-ok : goal.returns-in-Ok-prepare-clause-ok
returns-in-Ok-prepare-clause-ok c = λ s h.
    let told = rw c.in-Ok.is at c.requires.change in
    let stands = c.prepare.ensures.stands (served s) h in
    subst (λ (t : Change). MayAdd s t × StandsFor c.make.new.self (served (committed s t))) told
    (c.in-Ok-prepare.ensures.prepared.may_add s stands, c.make.ensures.committed s stands)
