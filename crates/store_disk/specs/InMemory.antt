-- What a store on disks in memory stands for. For callers.
use Rattle.disk_edge.specs.Medium.{Medium, model}
use Rattle.store_machine.specs.declared.machine.State.{State}
use Rattle.store_disk.specs.OnDisk.{StandsFor, StoreTerm}

abbrev pub StandsInMemory : StoreTerm Medium → State → Type 0
StandsInMemory store s = StandsFor model store s
