use Rattle.std.proofs.Common.{refl}
use Rattle.disk_pair.proofs.Ends.{doubt_has, ending_at}
use Rattle.disk_pair.proofs.Others.{carries_stood}
use Rattle.disk_pair.proofs.other.finish.Goals as goal

pub returns-in-Ok-clause-moments : goal.returns-in-Ok-clause-moments
returns-in-Ok-clause-moments g c second k h r l told y m =
    ending_at g.D.Disk.model k c.args.carry h r c.requires.whole c.in-Ok.journal.disk c.in-Ok.ensures.untold second l
    told y (λ copies. c.in-Ok.ensures.moments h.base h.commits copies y m)

pub returns-in-Err-Memory-clause-moments : goal.returns-in-Err-Memory-clause-moments
returns-in-Err-Memory-clause-moments g c second k h r l told y m =
    ending_at g.D.Disk.model k c.args.carry h r c.requires.whole c.in-Err-Memory.carry.disk
    (rw c.in-Err-Memory.field-0-is at c.in-Err-Memory.ensures.untold) second l told y
    (λ copies. (rw c.in-Err-Memory.field-0-is at c.in-Err-Memory.ensures.moments) h.base h.commits copies y m)

pub returns-in-Err-Sure-clause-moments : goal.returns-in-Err-Sure-clause-moments
returns-in-Err-Sure-clause-moments g c second k h r l told y m =
    ending_at g.D.Disk.model k c.args.carry h r c.requires.whole c.in-Err-Sure.disk
    (rw c.in-Err-Sure.field-0-is at c.in-Err-Sure.ensures.untold) second l told y
    (λ copies. (rw c.in-Err-Sure.field-0-is at c.in-Err-Sure.ensures.moments) h.base h.commits copies y m)

pub returns-in-Err-Doubt-clause-moments : goal.returns-in-Err-Doubt-clause-moments
returns-in-Err-Doubt-clause-moments g c second k h r l told y m =
    ending_at g.D.Disk.model k c.args.carry h r c.requires.whole c.in-Err-Doubt.disk
    (rw c.in-Err-Doubt.field-0-is at c.in-Err-Doubt.ensures.untold) second l told y
    (λ copies. (rw c.in-Err-Doubt.field-0-is at c.in-Err-Doubt.ensures.moments) h.base h.commits copies y m)

pub returns-in-Err-Doubt-clause-err : goal.returns-in-Err-Doubt-clause-err
returns-in-Err-Doubt-clause-err g c second k h r =
    doubt_has g.D.Disk.model k c.args.carry h r c.requires.whole c.in-Err-Doubt.disk
    (rw c.in-Err-Doubt.field-0-is at c.in-Err-Doubt.ensures.untold) second
    (λ copies. (rw c.in-Err-Doubt.field-0-is at c.in-Err-Doubt.ensures.doubt) h.base h.commits copies)

pub returns-in-Err-Memory-clause-err : goal.returns-in-Err-Memory-clause-err
returns-in-Err-Memory-clause-err g c second k h r =
    let memory = c.in-Err-Memory in
    let stood = rw memory.field-0-is at memory.ensures.stood in (
      refl,
      (
        h,
        refl,
        carries_stood g.D.Disk.model k c.args.carry memory.carry h r (rw memory.field-0-is at memory.ensures.untold)
            stood.0 stood.2 ((rw memory.field-0-is at memory.ensures.memory) h.base h.commits),
      ),
    )
