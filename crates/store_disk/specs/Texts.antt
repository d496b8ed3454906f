-- What reading the texts of commits and of base entries gives. For private clauses alone.
use Rattle.std.specs.Prelude.{◌≡◌, ◌≢◌, IfErr, IfOk, IfSome, List, Option, Result, ℕ}
use Rattle.std.specs.Arc.{arc_value}
use Rattle.std.specs.List.{AllZip}
use Rattle.commit_log.specs.Change as logged
use Rattle.commit_log.specs.Entry.{entry_of}
use Rattle.commit_log.specs.declared.base.BaseEntry.{BaseEntry}
use Rattle.commit_log.specs.declared.change.Commit.{Commit}
use Rattle.mol_finish.specs.declared.fault.TextFault.{TextFault}
use Rattle.mol_finish.specs.declared.fault.TextFault.TheVariants.{NoMemory}
use Rattle.store_core.specs.Kept.{status_in}
use Rattle.store_core.specs.Records.{Shared}
use Rattle.store_core.specs.Replies.{change_of}
use Rattle.store_core.specs.declared.words.Change.{Change}
use Rattle.store_machine.specs.History.{HasText, IsValid}
use Rattle.store_disk.specs.Payloads.{told, told_entry}

-- the change of a commit, or a fault: of want of memory, or because the commit's text has no structure
pub record IsChange (commit : Commit) (made : Result Change TextFault) : Type 0 where
  pub change : IfOk made (λ c. change_of c ≡ told (logged.change_of commit.wire))
  pub fault : IfErr made (λ fault. fault ≢ NoMemory → ¬ IsValid (told (logged.change_of commit.wire)))

-- the record of a base entry, none where it is withdrawn, or a fault likewise
pub record IsRecord (entry : ℕ × BaseEntry) (made : Result (Option Shared) TextFault) : Type 0 where
  pub status : IfOk made (λ r. status_in entry.1.version r ≡ (told_entry (entry_of entry.1)).1)
  pub own : IfOk made (λ r. IfSome r (λ own. (arc_value own).id ≡ entry.1.id))
  pub fault : IfErr made (λ fault. fault ≢ NoMemory → ¬ HasText (told_entry (entry_of entry.1)).1)

-- one of each, in order
abbrev pub AreChanges : List Commit → List (Result Change TextFault) → Type 0
AreChanges commits changes = AllZip IsChange commits changes

abbrev pub AreRecords : List (ℕ × BaseEntry) → List (Result (Option Shared) TextFault) → Type 0
AreRecords entries records = AllZip IsRecord entries records
