use Rattle.std.proofs.Common.{List, ◌^◌, ◌-◌}
use Rattle.commit_log.specs.declared.change.Commit.{Commit}
use Rattle.store_disk.specs.Replays.{AreLogged, HasTaken}
use Rattle.store_disk.proofs.Reading.{Reading}
use Rattle.store_disk.proofs.together.replay_by.Given as goal

abbrev pub invariant-loop-commit : goal.invariant-loop-commit
invariant-loop-commit g l = record {
  waiting : AreLogged l.batches.waiting.items;
  taken : (log : List Commit) × Reading g.D.Disk.model l.fn.journal l.journal log
      × HasTaken l.batches.rebuild.memory l.batches.rebuild.stopped l.batches.waiting.items l.version l.base log;
}

abbrev pub decreases-loop-commit : goal.decreases-loop-commit
decreases-loop-commit g l = 2 ^ 64 - l.journal.place
