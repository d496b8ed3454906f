-- The number of calls that were answered that the disk failed. For callers.
use Rattle.std.specs.Prelude.{◌+◌, ◌-◌, ◌<◌, ◌≤◌, ◌^◌, Bool, List, count_by, false, true, ℕ}
use Rattle.disk_edge.specs.Medium.{Medium, model}
use Rattle.disk_pair.specs.Term.{disk_a, disk_b}
use Rattle.store_machine.specs.declared.machine.Reply.{Reply}
use Rattle.store_machine.specs.declared.machine.Reply.TheVariants.{DiskFault}
use Rattle.store_machine.specs.declared.machine.State.{State}
use Rattle.store_machine.specs.declared.machine.Step.{Step}
use Rattle.store_disk.specs.OnDisk.{StoreTerm}
use Rattle.store_disk.specs.Stored.{Stretches}

abbrev pub is_disk_fault : Reply → Bool
is_disk_fault (DiskFault doubt) = true
is_disk_fault _ = false

abbrev pub disk_faults : List Step → ℕ
disk_faults steps = count_by (λ x. is_disk_fault x.reply) steps

-- the number of failed calls of each disk, and of both
abbrev pub failed_a : StoreTerm Medium → ℕ
failed_a store = (disk_a store.pair).failures.count

abbrev pub failed_b : StoreTerm Medium → ℕ
failed_b store = (disk_b store.pair).failures.count

abbrev pub failed : StoreTerm Medium → ℕ
failed store = failed_a store + failed_b store

-- the count of each disk can go on
abbrev pub CanCount : StoreTerm Medium → Type 0
CanCount store = (failed_a store < 2 ^ 64 - 1) × (failed_b store < 2 ^ 64 - 1)

-- in a stretch no more calls are answered so than calls of the two disks failed, while these can be counted
abbrev pub FaultsAreCounted : Type 0
FaultsAreCounted = (old new : StoreTerm Medium) (s t : State) (steps : List Step) → Stretches model old new s steps t
    → CanCount new → failed old + disk_faults steps ≤ failed new
