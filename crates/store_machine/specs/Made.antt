-- The entries that a history has made, and the snapshot that a store reads from the entries that it keeps.
use Rattle.std.specs.Prelude.{◌≡◌, ◌+◌, ◌<◌, ◌≤◌, ◌⊎◌, Contains, List, [], ◌∷◌, MatchOption, Some, ℕ}
use Rattle.std.specs.FinMap.{get}
use Rattle.store_machine.specs.History.{base_states, id_of, made_at, snapshot}
use Rattle.store_machine.specs.declared.machine.Change.{Change}
use Rattle.store_machine.specs.declared.machine.Entry.{Entry}
use Rattle.store_machine.specs.declared.machine.History.{History}
use Rattle.store_machine.specs.declared.machine.State.{State}
use Rattle.store_machine.specs.declared.machine.Status.{Status}

-- the commit of this version is of this identifier. The changes begin after a version
abbrev pub IsMade : ℕ → List Change → ℕ → ℕ → Type 0
IsMade after [] id version = ⊥
IsMade after (c ∷ cs) id version = ((id_of c ≡ id) × (after + 1 ≡ version)) ⊎ IsMade (after + 1) cs id version

-- a commit of the history made the entry, or its base has it
abbrev pub HasMade : History → ℕ → ℕ → Type 0
HasMade h id version = IsMade h.version h.commits id version
    ⊎ ((status : Status) × (get (base_states h) id ≡ Some status) × (made_at status ≡ version))

abbrev pub KeepsMade : State → Type 0
KeepsMade s = (entry : Entry) → Contains s.kept entry → HasMade s.history entry.id entry.version

abbrev pub IsKept : State → ℕ → ℕ → Type 0
IsKept s id version = Contains s.kept (record { id = id; version = version })

-- of the kept entries of an identifier, the latest at or before the version is that of its state there. An identifier
-- without a state has no such entry
abbrev pub ReadsKept : State → ℕ → ℕ → Type 0
ReadsKept s v id = MatchOption (get (snapshot s.history v) id)
    ((version : ℕ) → IsKept s id version → v < version)
    (λ status. IsKept s id (made_at status) × (made_at status ≤ v)
    × ((version : ℕ) → IsKept s id version → version ≤ v → version ≤ made_at status))
