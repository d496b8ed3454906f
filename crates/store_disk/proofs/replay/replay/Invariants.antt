use Rattle.std.proofs.Common.{List, ◌^◌, ◌-◌}
use Rattle.commit_log.specs.declared.change.Commit.{Commit}
use Rattle.store_disk.specs.Replays.{HasCome}
use Rattle.store_disk.proofs.Reading.{Reading}
use Rattle.store_disk.proofs.replay.replay.Given as goal

abbrev pub invariant-loop-commit : goal.invariant-loop-commit
invariant-loop-commit g l =
    (log : List Commit) × Reading g.D.Disk.model l.fn.journal l.journal log
    × HasCome l.rebuild.memory l.rebuild.stopped l.version l.base log

abbrev pub decreases-loop-commit : goal.decreases-loop-commit
decreases-loop-commit g l = 2 ^ 64 - l.journal.place
