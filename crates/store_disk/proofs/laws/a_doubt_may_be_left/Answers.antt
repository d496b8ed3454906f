use Rattle.std.proofs.Common.{sym}
use Rattle.store_disk.proofs.OnDisks.{commit-left, finish-left-open}
use Rattle.store_disk.proofs.laws.a_doubt_may_be_left.Goals as goal

pub returns-clause-commit : goal.returns-clause-commit
returns-clause-commit g c = rw (sym c.store.view_is)
    (λ s change stands doubt finish. commit-left c.laws.ensures.sound c.laws.ensures.heads g.D.Disk.model _ s stands
    change doubt finish c.a_crash_may_leave_a_doubt.ensures.commit)

pub returns-clause-finish : goal.returns-clause-finish
returns-clause-finish g c = rw (sym c.store.view_is)
    (λ s version stands finish. finish-left-open c.laws.ensures.sound c.laws.ensures.heads g.D.Disk.model _ s stands
    version finish c.a_crash_may_leave_a_doubt.ensures.finish)
