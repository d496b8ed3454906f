use Rattle.std.proofs.Common.{inl}
use Rattle.commit_log.specs.Base.{entries_of}
use Rattle.store_core.specs.declared.store.Store.{Store as Memory}
use Rattle.store_disk.specs.Replays.{LacksText}
use Rattle.store_disk.proofs.Replayed.{made-none}
use Rattle.store_disk.proofs.Results.{damaged-at}
use Rattle.store_disk.proofs.replay.Rebuild.begin.Goals as goal

pub returns-in-Ok : goal.returns-in-Ok
returns-in-Ok c = λ base ok damaged.
    made-none c.in-Ok.memory c.args.version (entries_of base) (rw c.in-Ok.is at ok)

pub returns-in-Err-Damaged : goal.returns-in-Err-Damaged
returns-in-Err-Damaged c = λ base ok damaged.
    inl (damaged-at Memory c.in-Err-Damaged.field-0 c.in-Err-Damaged.at (LacksText base)
    (rw c.in-Err-Damaged.is at c.in-Err-Damaged.field-0-is) (rw c.in-Err-Damaged.is at damaged))
