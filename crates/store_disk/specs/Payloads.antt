-- A history as a disk has it: a change of the machine as the payload that is written for it, an entry of a base as its
-- base record, and back. For callers.
use Rattle.std.specs.Prelude.{List, length, map, ℕ}
use Rattle.commit_log.specs.Change.{Change as Logged, registered, revised, withdrawn, written}
use Rattle.commit_log.specs.Entry as entry
use Rattle.commit_log.specs.Entry.{Entry, EntryState}
use Rattle.commit_log.specs.declared.change.Format.{Format as LoggedFormat}
use Rattle.commit_log.specs.declared.change.Format.TheVariants as logged
use Rattle.disk_pair.specs.Pairs.{History as Written}
use Rattle.mol_finish.specs.declared.fault.Format.{Format}
use Rattle.mol_finish.specs.declared.fault.Format.TheVariants.{Smiles, Molfile}
use Rattle.store_machine.specs.History.{made_at}
use Rattle.store_machine.specs.declared.machine.Change.{Change}
use Rattle.store_machine.specs.declared.machine.Change.TheVariants.{Register, Revise, Withdraw}
use Rattle.store_machine.specs.declared.machine.History.{History}
use Rattle.store_machine.specs.declared.machine.Status.{Status}
use Rattle.store_machine.specs.declared.machine.Status.TheVariants.{Live, Withdrawn}

abbrev pub logged_format : Format → LoggedFormat
logged_format Smiles = logged.Smiles
logged_format Molfile = logged.Molfile

abbrev pub stored_format : LoggedFormat → Format
stored_format logged.Smiles = Smiles
stored_format logged.Molfile = Molfile

-- the change as a log has it
abbrev pub logged_change : Change → Logged
logged_change (Register id format text) = registered id (logged_format format) text
logged_change (Revise id format text) = revised id (logged_format format) text
logged_change (Withdraw id) = withdrawn id

-- a change of a log as the machine has it
abbrev pub told : Logged → Change
told (registered id format text) = Register id (stored_format format) text
told (revised id format text) = Revise id (stored_format format) text
told (withdrawn id) = Withdraw id

-- what an identifier was, as a base record has it
abbrev pub logged_state : Status → EntryState
logged_state (Live version format text) = entry.live (logged_format format) text
logged_state (Withdrawn version) = entry.withdrawn

abbrev pub logged_entry : ℕ × Status → Entry
logged_entry e = record { id = e.0; version = made_at e.1; state = logged_state e.1 }

-- what a base record has, as the machine has it
abbrev pub told_state : ℕ → EntryState → Status
told_state version (entry.live format text) = Live version (stored_format format) text
told_state version entry.withdrawn = Withdrawn version

abbrev pub told_entry : Entry → ℕ × Status
told_entry e = (e.id, told_state e.version e.state)

-- the history that the entries of a base of this version and the changes of a log are
abbrev pub told_history : ℕ → List Entry → List Logged → History
told_history version entries changes =
    record { base = map told_entry entries; version = version; commits = map told changes }

abbrev pub payload : Change → List ℕ
payload c = written (logged_change c)

abbrev pub base_payload : ℕ × Status → List ℕ
base_payload e = entry.written (logged_entry e)

-- those of a history's commits
abbrev pub payloads : History → List (List ℕ)
payloads h = map payload h.commits

-- a history as a disk of this generation has it
abbrev pub history_of : ℕ → History → Written
history_of generation h = record {
  header = record
      { generation = generation; base_version = h.version; base_count = length h.base };
  base = map base_payload h.base;
  commits = payloads h;
}
