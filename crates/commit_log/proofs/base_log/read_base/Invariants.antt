use Rattle.std.proofs.Common.{◌≡◌, ◌+◌, ◌++◌, [], length, ℕ, List, false}
use Rattle.journal_core.specs.Fronts.{front_of}
use Rattle.journal_core.specs.Journal.{Reads}
use Rattle.journal_core.specs.Looks.{Looks}
use Rattle.commit_log.specs.Base.{TakesBase, base_payloads, entries_of, last_id}
use Rattle.commit_log.proofs.base_log.read_base.Given as goal

abbrev pub invariant-loop-at : goal.invariant-loop-at
invariant-loop-at g l =
    let d = g.D.Disk.model in
    let h = l.fn.journal.header in
    record {
      settled : l.journal.doubt ≡ false;
      header : l.journal.header ≡ h;
      takes : TakesBase h.base_version l.fn.journal.place l.found.items l.journal.place;
      last : l.last ≡ last_id 0 (entries_of l.found.items);
      count : length l.found.items + l.journal.left ≡ l.fn.journal.left;
      none : l.fn.journal.left ≡ 0 → l.journal ≡ l.fn.journal;
      reads : (before : List (List ℕ)) → Reads d l.fn.journal (front_of h before) []
          → Reads d l.journal (front_of h (before ++ base_payloads (entries_of l.found.items))) [];
      looks : Looks d l.fn.journal.disk l.journal.disk;
    }

abbrev pub decreases-loop-at : goal.decreases-loop-at
decreases-loop-at g l = l.journal.left
