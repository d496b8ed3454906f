-- The failures set on a world's disks, the world after a reopening, and facts of each world. For callers but for the
-- last.
use Rattle.std.specs.Prelude.{◌≡◌, ◌≤◌, List, Option, Some, ℕ}
use Rattle.disk_edge.specs.Disk.{Exactly}
use Rattle.disk_edge.specs.Failures.{bound_of}
use Rattle.disk_edge.specs.Image.{image_of}
use Rattle.disk_edge.specs.Medium.{Medium, model}
use Rattle.disk_edge.specs.declared.failures.Failures.{Failures}
use Rattle.disk_pair.specs.Changed.{changed}
use Rattle.disk_pair.specs.Term.{disk_a, disk_b}
use Rattle.disk_pair.specs.declared.choice.Which.{Which}
use Rattle.store_machine.specs.History.{head}
use Rattle.store_machine.specs.Machine.{MayBeLeft}
use Rattle.store_machine.specs.Openings.{IsOpened, reopening}
use Rattle.store_machine.specs.Runs.{IsRun}
use Rattle.store_machine.specs.declared.machine.State.{State}
use Rattle.store_machine.specs.declared.machine.Times.{Times}
use Rattle.store_disk.specs.InMemory.{StandsInMemory}
use Rattle.store_disk.specs.Loads.{OpensTo}
use Rattle.store_disk.specs.OnDisk.{StoreTerm}

-- with other failures set on one of the two disks: one that fails once, and a stop
abbrev pub with_failures : Which → StoreTerm Medium → (Failures → Failures) → StoreTerm Medium
with_failures disk store set =
    record store { pair = changed disk (λ d. record d { failures = set d.failures }) store.pair }

abbrev pub failing : Which → StoreTerm Medium → ℕ → StoreTerm Medium
failing disk store call = with_failures disk store (λ f. record f { once = Some call })

abbrev pub stopping : Which → StoreTerm Medium → ℕ → StoreTerm Medium
stopping disk store calls = with_failures disk store (λ f. record f { passes = Some calls })

-- the bounds of the faults of disk `a` and of disk `b`
abbrev pub bounds_of : StoreTerm Medium → Option ℕ × Option ℕ
bounds_of store = (bound_of (disk_a store.pair).failures, bound_of (disk_b store.pair).failures)

-- no failure is set on either disk, and none ever came
abbrev pub HasNoFailures : StoreTerm Medium → Type 0
HasNoFailures store =
    (bound_of (disk_a store.pair).failures ≡ Some 0) × (bound_of (disk_b store.pair).failures ≡ Some 0)

-- the bytes that a crash leaves on a disk: the image of this number
abbrev pub left_on : Medium → ℕ → List ℕ
left_on disk image = image_of image disk.first disk.calls

-- a read gives these bytes, and a crash now leaves them
abbrev pub HasSynced : Medium → List ℕ → Type 0
HasSynced disk bytes = (model.content disk ≡ Some bytes) × Exactly bytes (model.images disk)

-- A crash that leaves these bytes on disk `a` and these on disk `b`, and an opening, lead from a state to a state of
-- this store, at this version.
pub record Reopens (s : State) (a b : List ℕ) (store : StoreTerm Medium) (count : ℕ) : Type 0 where
  pub after : State
  pub stands : StandsInMemory store after
  -- the history is one that may be left of the state, and the one that the two disks open to
  pub left : MayBeLeft s after.history after.generation
  pub opens : OpensTo after.history after.generation a b
  pub version : count ≡ head after.history
  -- nothing is pinned, copied or in doubt, and the limit is as before
  pub opened : IsOpened s.limit after
  -- a Crash and an Open are a run, whatever their times
  pub run : (at begin end : Times) → IsRun s (reopening s after at begin end) after

-- The store has a state with this limit. For private clauses alone.
abbrev pub IsWorld : StoreTerm Medium → ℕ → Type 0
IsWorld store commits = (1 ≤ commits) × ((s : State) × StandsInMemory store s × (s.limit ≡ commits))
