-- Calls of a store in memory beside disks. For callers.
use Rattle.std.specs.Prelude.{List, [], ◌∷◌, true, ℕ}
use Rattle.store_machine.specs.Machine.{Gives}
use Rattle.store_machine.specs.declared.machine.Event.{Event}
use Rattle.store_machine.specs.declared.machine.Event.TheVariants.{Fetch, Look, Pin, Stats, Unpin}
use Rattle.store_machine.specs.declared.machine.Held.{Held}
use Rattle.store_machine.specs.declared.machine.Reply.{Reply}
use Rattle.store_machine.specs.declared.machine.State.{State}
use Rattle.store_core.specs.Calls.{Calls}
use Rattle.store_core.specs.Stored.{IsAt, IsServing, StoreTerm, Stretches}

-- calls that change no more than pins. The entries that a prune leaves depend on the version of a copy too
abbrev pub IsOfMemory : Event → Type 0
IsOfMemory Pin = Unit {0}
IsOfMemory (Fetch slot want from limit) = Unit {0}
IsOfMemory (Unpin slot) = Unit {0}
IsOfMemory (Look id) = Unit {0}
IsOfMemory Stats = Unit {0}
IsOfMemory _ = ⊥

abbrev pub repinned : State → List Held → State
repinned s pins = record s { pins = pins }

-- a step from a state, by which its pins alone may change, to one that the store serves
pub record StepBeside (new : StoreTerm) (s : State) (e : Event) (r : Reply) : Type 0 where
  pub owner : ℕ
  pub pins : List Held
  pub gives : Gives s owner e r (repinned s pins)
  pub serving : IsServing new (repinned s pins)

-- such a call of the store alone is one at every state that it serves
abbrev pub CallsServe : Type 0
CallsServe = (old new : StoreTerm) (e : Event) (r : Reply) → IsOfMemory e
    → ((s : State) → IsAt old s → Calls Stretches (λ _. true) old new s ((e, r) ∷ []))
    → (s : State) → IsServing old s → StepBeside new s e r
