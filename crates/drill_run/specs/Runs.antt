-- For callers: the runs of a drill's world.
use Rattle.std.specs.Prelude.{◌≡◌, List, map}
use Rattle.disk_edge.specs.Medium.{Medium}
use Rattle.session_acts.specs.Cursors.{Calls}
use Rattle.store_machine.specs.Runs.{IsRun}
use Rattle.store_machine.specs.declared.machine.State.{State}
use Rattle.store_machine.specs.declared.machine.Step.{Step}
use Rattle.store_disk.specs.InMemory.{StandsInMemory}
use Rattle.store_disk.specs.OnDisk.{StoreTerm}

-- the events of a run with their replies, those of reopenings too
abbrev pub events_of : List Step → Calls
events_of steps = map (λ (x : Step). (x.event, x.reply)) steps

-- From the state that a world represents there is a run with exactly these events and replies, to a state with P
abbrev pub RunsTo : StoreTerm Medium → Calls → (State → Type 0) → Type 0
RunsTo world calls P = (s : State) → StandsInMemory world s
    → (steps : List Step) × (t : State) × IsRun s steps t × (events_of steps ≡ calls) × P t

abbrev pub Runs : StoreTerm Medium → Calls → Type 0
Runs world calls = RunsTo world calls (λ _. Unit {0})
