-- For callers: fetches of one pin, each from the end of the one before it.
use Rattle.std.specs.Prelude.{◌≡◌, ◌⊎◌, ℕ, Bool, List, [], ◌∷◌, if◌then◌else◌}
use Rattle.store_core.specs.Calls as core
use Rattle.store_core.specs.declared.service.Service as meaning
use Rattle.store_machine.specs.Searches.{Place, At, End, past}
use Rattle.store_machine.specs.declared.machine.Event.{Event}
use Rattle.store_machine.specs.declared.machine.Event.TheVariants.{Fetch}
use Rattle.store_machine.specs.declared.machine.Found.{Found}
use Rattle.store_machine.specs.declared.machine.Reply.{Reply}
use Rattle.store_machine.specs.declared.machine.Reply.TheVariants.{NoMemory, Page}
use Rattle.store_machine.specs.declared.machine.State.{State}

-- calls of a service with their replies, in order
abbrev pub Calls : Type 0
Calls = List (Event × Reply)

-- from one value of a service to a later one its caller's own calls are these
pub record Makes {S : Type 0} (of : meaning.Ghosts S) (old new : S) (calls : Calls) : Type 0 where
  pub made : (s : State) → of.at old s → core.Calls of.stretch (of.owns old) old new s calls

-- Fetches of one pin by pages of a size, from one place of a search to another: each from the end of the one before it.
-- One that found no memory is the last, and leaves the search at its place
abbrev pub AreFetches : ℕ → ℕ → List Bool → Place → Calls → Place → Type 0
AreFetches slot size want place [] place' = place' ≡ place
AreFetches slot size want place (c ∷ cs) place' = (from : ℕ) × (place ≡ At from) × (c.0 ≡ Fetch slot want from size)
    × (((c.1 ≡ NoMemory) × (cs ≡ []) × (place' ≡ place))
    ⊎ ((records : List Found) × (last : Bool) × (c.1 ≡ Page records last)
    × AreFetches slot size want (if last then End else At (past from records)) cs place'))

-- all of these calls were answered by pages
abbrev pub ArePages : Calls → Type 0
ArePages [] = Unit {0}
ArePages (c ∷ cs) = (records : List Found) × (last : Bool) × (c.1 ≡ Page records last) × ArePages cs
