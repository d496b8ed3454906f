-- A drill: the events of a world from its making on, reopenings included. For callers.
use Rattle.std.specs.Prelude.{◌≡◌, ◌+◌, ◌++◌, ◌-◌, ◌<◌, ◌≤◌, ◌^◌, Bool, List, [], Some, false, true, ℕ}
use Rattle.disk_edge.specs.Medium.{Medium, model}
use Rattle.disk_pair.specs.declared.choice.Which.{Which}
use Rattle.store_core.specs.Calls.{NotRaised}
use Rattle.store_machine.specs.Openings.{reopening}
use Rattle.store_machine.specs.Runs.{IsRun}
use Rattle.store_machine.specs.declared.machine.State.{State}
use Rattle.store_machine.specs.declared.machine.Step.{Step}
use Rattle.store_machine.specs.declared.machine.Times.{Times}
use Rattle.store_disk.specs.InMemory.{StandsInMemory}
use Rattle.store_disk.specs.OnDisk.{StoreTerm}
use Rattle.store_disk.specs.Stored.{Stretches}
use Rattle.drill_core.specs.Faults.{CanCount, disk_faults, failed}
use Rattle.drill_core.specs.Worlds.{HasNoFailures, Reopens, bounds_of, failing, stopping}

-- All steps so far are a run, to a state of the world. `part` is their last part, since the making or the last
-- reopening. In it a stop was set on either disk if `stopped`, and `fails` failures on both together. Each answer that
-- a disk failed had a failed call of one of them.
pub record IsDrill (world : StoreTerm Medium) (first now : State) (steps part : List Step) (stopped : Bool) (fails : ℕ)
    : Type 0 where
  pub run : IsRun first steps now
  pub last : (before : List Step) × (steps ≡ before ++ part)
  pub stands : StandsInMemory world now
  pub counted : CanCount world → disk_faults part ≤ failed world
  pub bounded : stopped ≡ false
      → (n m : ℕ) × ((bounds_of world).0 ≡ Some n) × ((bounds_of world).1 ≡ Some m) × (n + m ≤ fails)

-- it begins with a world without failures
abbrev pub DrillsBegin : Type 0
DrillsBegin = (world : StoreTerm Medium) (s : State) → StandsInMemory world s
    → HasNoFailures world → IsDrill world s s [] [] false 0

-- it goes on by calls
abbrev pub DrillsCall : Type 0
DrillsCall = (old new : StoreTerm Medium) (first s t : State) (steps part more : List Step) (stopped : Bool)
    (fails : ℕ)
    → IsDrill old first s steps part stopped fails → Stretches model old new s more t
    → NotRaised (bounds_of old) (bounds_of new)
    → IsDrill new first t (steps ++ more) (part ++ more) stopped fails

-- by a failure and by a stop, which are set on either disk
abbrev pub DrillsFail : Type 0
DrillsFail = (disk : Which) (world : StoreTerm Medium) (first s : State) (steps part : List Step) (stopped : Bool)
    (fails call : ℕ)
    → IsDrill world first s steps part stopped fails → StandsInMemory (failing disk world call) s
    → IsDrill (failing disk world call) first s steps part stopped (fails + 1)

abbrev pub DrillsStop : Type 0
DrillsStop = (disk : Which) (world : StoreTerm Medium) (first s : State) (steps part : List Step) (stopped : Bool)
    (fails calls : ℕ)
    → IsDrill world first s steps part stopped fails → StandsInMemory (stopping disk world calls) s
    → IsDrill (stopping disk world calls) first s steps part true fails

-- and by reopenings
abbrev pub DrillsReopen : Type 0
DrillsReopen = (old new : StoreTerm Medium) (first s : State) (steps part : List Step) (stopped : Bool) (fails : ℕ)
    (a b : List ℕ) (count : ℕ) (at begin end : Times)
    → IsDrill old first s steps part stopped fails → (r : Reopens s a b new count) → HasNoFailures new
    → IsDrill new first r.after (steps ++ reopening s r.after at begin end) [] false 0

-- without a stop there are no more answers that a disk failed than failures were set on either disk
abbrev pub FaultsAreSet : Type 0
FaultsAreSet = (world : StoreTerm Medium) (first s : State) (steps part : List Step) (fails : ℕ)
    → IsDrill world first s steps part false fails → fails < 2 ^ 64 - 1 → disk_faults part ≤ fails
