-- The entries that a state needs: those that a version in use can read.
use Rattle.std.specs.Prelude.{◌≡◌, ◌++◌, ◌∷◌, ◌≤◌, Contains, List, [], map, MatchOption, None, Option, Some, ℕ}
use Rattle.std.specs.FinMap.{get}
use Rattle.store_machine.specs.History.{head, made_at, snapshot}
use Rattle.store_machine.specs.declared.machine.Copying.{Copying}
use Rattle.store_machine.specs.declared.machine.Status.{Status}
use Rattle.store_machine.specs.declared.machine.Entry.{Entry}
use Rattle.store_machine.specs.declared.machine.History.{History}
use Rattle.store_machine.specs.declared.machine.State.{State}

-- at one of these versions, the identifier's state is the one that was made at the entry's version
pub record IsNeeded (h : History) (versions : List ℕ) (entry : Entry) : Type 0 where
  pub at : ℕ
  pub used : Contains versions at
  pub status : Status
  pub state : get (snapshot h at) entry.id ≡ Some status
  pub made : made_at status ≡ entry.version

-- the pinned versions, that of a copy that runs, and the head
abbrev pub copied : Option Copying → List ℕ
copied None = []
copied (Some copy) = copy.version ∷ []

abbrev pub in_use : State → List ℕ
in_use s = map (λ p. p.version) s.pins ++ (copied s.copy ++ head s.history ∷ [])

abbrev pub KeepsNeeded : State → Type 0
KeepsNeeded s = (entry : Entry) → IsNeeded s.history (in_use s) entry → Contains s.kept entry

-- each pin is of a version that the history has
abbrev pub PinsThePast : State → Type 0
PinsThePast s = (v : ℕ) → Contains (map (λ p. p.version) s.pins) v → (s.history.version ≤ v) × (v ≤ head s.history)

-- the disk that is read, a copy that runs and one whose finish is in doubt begin at versions that the history has
abbrev pub IsPast : State → ℕ → Type 0
IsPast s v = (s.history.version ≤ v) × (v ≤ head s.history)

pub record BasesArePast (s : State) : Type 0 where
  pub base : IsPast s s.base
  pub copy : MatchOption s.copy (Unit {0}) (λ copy. IsPast s copy.version)
  pub finish : MatchOption s.finish (Unit {0}) (IsPast s)
