use Rattle.std.proofs.Common.{◌≡◌, ◌++◌, ◌-◌, ◌^◌, ℕ, List, false}
use Rattle.journal_core.specs.Journal.{Reads}
use Rattle.journal_core.specs.Looks.{Looks}
use Rattle.commit_log.specs.Log.{Takes, changes_of, payloads}
use Rattle.commit_log.proofs.log.read_all.Given as goal

abbrev pub invariant-loop-commit : goal.invariant-loop-commit
invariant-loop-commit g l =
    let d = g.D.Disk.model in
    record {
      settled : l.journal.doubt ≡ false;
      header : (l.journal.header ≡ l.fn.journal.header) × (l.journal.left ≡ l.fn.journal.left);
      takes : Takes l.fn.journal.place l.commits.items l.journal.place;
      reads : (front : List ℕ) (before : List (List ℕ)) → Reads d l.fn.journal front before
          → Reads d l.journal front (before ++ payloads (changes_of l.commits.items));
      looks : Looks d l.fn.journal.disk l.journal.disk;
    }

abbrev pub decreases-loop-commit : goal.decreases-loop-commit
decreases-loop-commit g l = 2 ^ 64 - l.journal.place
