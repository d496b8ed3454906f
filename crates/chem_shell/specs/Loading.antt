-- For private clauses alone: the causes of the statuses that come of a disk.
use Rattle.std.specs.Prelude.{◌≡◌, ◌≢◌, ◌⊎◌, ℕ}
use Rattle.disk_edge.specs.Disk.{DiskModel, Faulted}
use Rattle.journal_core.specs.Fronts.{IsOpen}
use Rattle.journal_core.specs.declared.faults.LoadFault.{LoadFault}
use Rattle.journal_core.specs.declared.faults.LoadFault.TheVariants as fault
use Rattle.store_disk.specs.Loads.{Damages}
use Rattle.store_disk.specs.declared.disks.Disks.{Disks}
use Rattle.chem_shell.specs.Contents.{IfBothTell}
use Rattle.serve_ends.specs.declared.status.TheConstants.{NO_MEMORY}
use Rattle.chem_shell.specs.declared.status.TheConstants.{DISK_FAULT, NOT_A_STORE, DAMAGED}

-- the causes of the statuses that come of a disk
pub record HasCauses {D : Type 0} (model : DiskModel D) (old new : Disks D) (status place : ℕ) : Type 0 where
  pub disk_fault : status ≡ DISK_FAULT → Faulted model old.a new.a ⊎ Faulted model old.b new.b
  pub not_a_store : status ≡ NOT_A_STORE → IfBothTell model old (λ x y. (¬ IsOpen x) × (¬ IsOpen y))
  pub damaged : status ≡ DAMAGED → IfBothTell model old (Damages place)
  pub undamaged : status ≢ DAMAGED → place ≡ 0

-- the status and the place of a loading that was refused so
abbrev pub IsCausedBy : LoadFault → ℕ → ℕ → Type 0
IsCausedBy fault.Disk status place = (status ≡ DISK_FAULT) × (place ≡ 0)
IsCausedBy fault.NotAStore status place = (status ≡ NOT_A_STORE) × (place ≡ 0)
IsCausedBy (fault.Damaged at) status place = (status ≡ DAMAGED) × (place ≡ at)
IsCausedBy fault.NoMemory status place = (status ≡ NO_MEMORY) × (place ≡ 0)
