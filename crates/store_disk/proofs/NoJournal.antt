-- A store without commits that keeps no journal stands for the state with which the machine begins.
use Rattle.std.proofs.Common.{◌≡◌, ◌∙◌, arith, length, false, nat_cmp, None, refl, sym, true, ℕ}
use Rattle.std.specs.FinMap.{empty as none, entries, len-empty, len-entries}
use Rattle.disk_edge.specs.NoDisk.{model}
use Rattle.disk_edge.specs.declared.no_disk.NoDisk.{NoDisk}
use Rattle.disk_pair.specs.Term.{Paired}
use Rattle.disk_pair.specs.declared.other.Other.TheVariants.{Idle}
use Rattle.store_core.specs.Stored.{IsAt, IsServing, StoreTerm as Memory, alone, empty, served}
use Rattle.store_machine.specs.History.{begun, snapshot}
use Rattle.store_machine.specs.declared.machine.Status.{Status}
use Rattle.store_disk.specs.OnDisk.{IsReady, StandsFor}
use Rattle.store_disk.proofs.Doubts.{no-finish}
use Rattle.store_disk.proofs.Opened.{at-rest}

-- the two disks, and the journal at its first gate
abbrev pub no_journal : Paired NoDisk
no_journal = record {
  journal = record {
    disk = record {};
    header = record { generation = 0; base_version = 0; base_count = 0 };
    left = 0;
    place = 8;
    ready = true;
    doubt = false;
  };
  other = Idle (record {}) false;
  second = false;
}

begins : (memory : Memory) (commits : ℕ) → IsAt memory (alone (served (empty commits)))
    → IsServing memory (empty commits)
begins memory commits at = at-rest memory (empty commits) commits 0 (record { a = 0; b = 0 }) at.stands

no-states : 0 ≡ length (entries (snapshot begun 0))
no-states = sym (len-empty nat_cmp Status) ∙ len-entries none

pub new-ready : (memory : Memory) (commits : ℕ) → IsAt memory (alone (served (empty commits)))
    → IsReady memory no_journal None
new-ready memory commits at = record {
  stands = (empty commits, begins memory commits at, refl);
  few = at.stands.within;
  bases = omega arith;
  place = omega arith;
  copying = refl;
}

pub new-stands : (memory : Memory) (commits : ℕ) → IsAt memory (alone (served (empty commits)))
    → StandsFor model (record { memory = memory; pair = no_journal; copy = None }) (empty commits)
new-stands memory commits at = record {
  memory = begins memory commits at;
  header = λ i. record { generation = 0; base_version = 0; base_count = no-states i };
  pair = λ l is. absurd (cc is);
  copy = refl;
  copied = tt;
  doubts = no-finish no_journal None refl;
  counts = refl;
}
