use Rattle.std.proofs.Common.{◌≡◌, ◌++◌, drop, length, List, take, ℕ}
use Rattle.std.specs.Vec.Iter.{into_iter_items, into_iter_len}
use Rattle.commit_log.specs.declared.base.BaseEntry.{BaseEntry}
use Rattle.commit_log.specs.declared.change.Commit.{Commit}
use Rattle.store_disk.specs.Replays.{HasCome}
use Rattle.store_disk.specs.Texts.{AreChanges}
use Rattle.store_disk.proofs.replay.Rebuild.add_all.Given as goal

abbrev pub invariant-loop-commit : goal.invariant-loop-commit
invariant-loop-commit l = record {
  come : (version : ℕ) (base : List (ℕ × BaseEntry)) (log : List Commit)
      → HasCome l.fn.self.memory l.fn.self.stopped version base log
      → HasCome l.self.memory l.self.stopped version base (log ++ take l.commit-index l.commits);
  left : AreChanges (drop l.commit-index l.commits) (into_iter_items l.changes);
  len : into_iter_len l.changes ≡ length (into_iter_items l.changes);
}
