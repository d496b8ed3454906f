use Rattle.std.proofs.Common.{refl}
use Rattle.store_disk.proofs.OnDisks.{after-commit, after-start}
use Rattle.store_disk.proofs.laws.what_disks_have_after.Goals as goal

pub returns-clause-committed : goal.returns-clause-committed
returns-clause-committed c = after-commit c.rebases_keep.ensures.grown

pub returns-clause-started : goal.returns-clause-started
returns-clause-started c = after-start

pub returns-clause-replaced : goal.returns-clause-replaced
returns-clause-replaced c = λ s version. refl
