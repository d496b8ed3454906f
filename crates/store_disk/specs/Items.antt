-- What a step of a copy leaves, by its answer. For private clauses alone.
use Rattle.std.specs.Prelude.{◌≡◌, ◌+◌, ◌-◌, Err, length, None, Ok, OnErr, OnOk, Option, option_map, Result, Some, ℕ}
use Rattle.disk_edge.specs.Disk.{DiskModel}
use Rattle.disk_pair.specs.Gives.{CopyGives, progress_after}
use Rattle.disk_pair.specs.Pairs.{History as Written}
use Rattle.disk_pair.specs.Stands.{StandsFor as PairStandsFor}
use Rattle.disk_pair.specs.Term.{Paired, Progress, disk_a, disk_b}
use Rattle.disk_pair.specs.declared.fault.PutFault.{PutFault}
use Rattle.disk_pair.specs.declared.fault.PutFault.TheVariants.{DiskFault, NoMemory}
use Rattle.store_core.specs.Stored.{StoreTerm as Memory}
use Rattle.store_machine.specs.declared.machine.Copying.{Copying}
use Rattle.store_machine.specs.declared.machine.State.{State}
use Rattle.store_disk.specs.Copies.{copy_of}
use Rattle.store_disk.specs.OnDisk.{CopyTerm, Follow, HasHeader, Lacks, StandsFor, StoreTerm, lacking, on_pair, whole_copy}
use Rattle.store_disk.specs.declared.copy.Copying.{Copying as Running}

-- a store of its parts
abbrev pub of_parts : {D : Type 0} → Memory → Paired D → Option Running → StoreTerm D
of_parts memory pair copy = record { memory = memory; pair = pair; copy = option_map copy_of copy }

-- how many items it lacks
abbrev pub left : CopyTerm → ℕ
left c = c.states + length c.commits

-- an item less is left
abbrev pub one_less : State → State
one_less s = record s { copy = option_map (λ (copy : Copying). record copy { left = copy.left - 1 }) s.copy }

-- what the copy's disk then has
abbrev pub with_next : State → CopyTerm → Written
with_next s c = lacking (left c - 1) (whole_copy s c.version)

-- What adding a copy's next item leaves, at a state of the machine whose copy lacks that item.
pub record AddsItem {D : Type 0} (model : DiskModel D) (result : Result (Unit {0}) PutFault) (old new : Paired D)
    (c next : CopyTerm) (s : State) : Type 0 where
  pub lacks : OnOk result (Lacks s.history (one_less s).copy next)
  pub gives : PairStandsFor model old (on_pair s)
      → CopyGives result (PairStandsFor model new) (on_pair s) (with_next s c)

-- What it leaves of the copy in memory, and how far the copy is on its disk. After a fault of the disk no copy runs
-- there; after want of memory it is as far as before.
pub record CopyGoesOn (result : Result (Unit {0}) PutFault) (old new : Running) (was now : Option Progress) : Type 0
  where
    pub follows : OnOk result ((version : ℕ) → Follow version (Some (copy_of old)) was
        → Follow version (Some (copy_of new)) now)
    pub header : OnOk result ((s : State) → HasHeader s.generation s.history (Some (copy_of old)) was
        → HasHeader s.generation s.history (Some (copy_of new)) now)
    pub stays : OnErr result (new ≡ old)
    pub progress : now ≡ progress_after result was now

-- with the disks' own counts of faults
abbrev pub counted : {D : Type 0} → DiskModel D → Paired D → State → State
counted model pair s = record s { faults = record { a = model.faults (disk_a pair); b = model.faults (disk_b pair) } }

abbrev pub ItemGives : {D : Type 0} → DiskModel D → Result (Unit {0}) PutFault → StoreTerm D → State → Type 0
ItemGives model (Ok _) new s = StandsFor model new (counted model new.pair (one_less s))
ItemGives model (Err (DiskFault doubt)) new s = StandsFor model new (counted model new.pair (record s { copy = None }))
ItemGives model (Err NoMemory) new s = StandsFor model new (counted model new.pair s)
