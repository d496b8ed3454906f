-- The two disks after an opening. For callers.
use Rattle.std.specs.Prelude.{◌≡◌, [], Err, false, List, Ok, Result, Some, ℕ}
use Rattle.disk_edge.specs.Disk.{DiskModel, IfTold}
use Rattle.journal_core.specs.Fronts.{BeginsAt, IsHeader, IsPart, IsPeeked}
use Rattle.journal_core.specs.Journal.{Reads}
use Rattle.journal_core.specs.Standing.{Standing}
use Rattle.journal_core.specs.declared.faults.LoadFault.{LoadFault}
use Rattle.disk_pair.specs.Term.{first_of}
use Rattle.disk_pair.specs.declared.opening.Picked.{Picked}

-- A journal that was just opened, at its first base record, or at its first commit if it has no base. If its disk's
-- content is known, its header was read there.
pub record IsOpening {D : Type 0} (model : DiskModel D) (journal : Standing D) : Type 0 where
  pub range : IsHeader journal.header
  pub start : BeginsAt journal.header journal.place
  pub left : journal.left ≡ journal.header.base_count
  pub unread : journal.ready ≡ false
  pub settled : journal.doubt ≡ false
  pub reads : IfTold (model.content journal.disk) (λ l. (front : List ℕ) × IsPart journal.header [] front
      × Reads model journal front [] × IsPeeked (Some journal.header) l)

-- the first disk afterwards, and the second
abbrev pub a_after : {D : Type 0} → Result (Picked D) (LoadFault × D × D) → D
a_after (Ok picked) = first_of picked.second picked.journal.disk picked.other
a_after (Err refused) = refused.1

abbrev pub b_after : {D : Type 0} → Result (Picked D) (LoadFault × D × D) → D
b_after (Ok picked) = first_of picked.second picked.other picked.journal.disk
b_after (Err refused) = refused.2

-- the disk whose journal is opened
abbrev pub current_after : {D : Type 0} → Result (Picked D) (LoadFault × D × D) → D
current_after (Ok picked) = picked.journal.disk
current_after (Err refused) = refused.1
