-- A store in which one identifier alone may have the wanted bits, and the pins that a step keeps.
use Rattle.std.specs.Prelude.{◌≡◌, Bool, Contains, List, ℕ}
use Rattle.store_machine.specs.Answers.{IsAnswer}
use Rattle.store_machine.specs.Structures.{IsScreened}
use Rattle.store_machine.specs.declared.machine.Entry.{Entry}
use Rattle.store_machine.specs.declared.machine.State.{State}
use Rattle.store_core.specs.Stored.{HoldsPin, IsAt, StoreTerm}

-- each kept live entry whose print holds the wanted bits is of this identifier
abbrev pub AreOf : List Bool → ℕ → State → Type 0
AreOf want id s = (e : Entry) → Contains s.kept e → IsAnswer (IsScreened want) s.history e.version e.id → e.id ≡ id

-- the store is at such a state
abbrev pub HasOnly : StoreTerm → List Bool → ℕ → Type 0
HasOnly store want id = (s : State) × IsAt store s × AreOf want id s

-- each pin that was held is held
abbrev pub KeepsPins : StoreTerm → StoreTerm → Type 0
KeepsPins old new = (slot version : ℕ) → HoldsPin old slot version → HoldsPin new slot version
