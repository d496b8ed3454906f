-- The histories of the store under the gate, and the step that a call on it adds.
use Rattle.std.specs.Prelude.{◌≡◌, ◌++◌, Bool, List, [], ◌∷◌, true, ℕ}
use Rattle.disk_edge.specs.Disk.{DiskModel}
use Rattle.store_machine.specs.Machine.{Holds}
use Rattle.store_machine.specs.Openings.{IsOpened}
use Rattle.store_machine.specs.Owners.{SameButOwners}
use Rattle.store_machine.specs.declared.machine.Event.{Event}
use Rattle.store_machine.specs.declared.machine.Event.TheVariants.{Fetch, Unpin}
use Rattle.store_machine.specs.declared.machine.Reply.{Reply}
use Rattle.store_machine.specs.declared.machine.State.{State}
use Rattle.store_machine.specs.declared.machine.Step.{Step}
use Rattle.store_core.specs.Replies.{commit_calls, compact_calls, fetch_calls, look_calls, pin_calls, prune_calls, stats_calls, unpin_calls}
use Rattle.store_disk.specs.OnDisk.{StandsFor, StoreTerm}
use Rattle.store_disk.specs.Stored.{Stretches}
use Rattle.hall.specs.declared.kept.Kept.{Kept}
use Rattle.hall.specs.declared.kept.Origin.{Origin}
use Rattle.hall.specs.declared.kept.Told.{Told}
use Rattle.hall.specs.declared.kept.Told.TheVariants as told

-- the state after these steps
abbrev pub after : State → List Step → State
after s [] = s
after s (x ∷ xs) = after x.after xs

-- the call that the value shows, with its reply
abbrev pub calls_told : Told → List (Event × Reply)
calls_told told.Nothing = []
calls_told (told.Commit change answer) = commit_calls change.value answer.value
calls_told (told.Pin answer) = pin_calls answer.value
calls_told (told.Fetch slot want from limit page answer) =
    fetch_calls slot want.value from limit page.value.records answer.value
calls_told (told.Unpin slot answer) = unpin_calls slot answer.value
calls_told (told.Prune answer) = prune_calls answer.value
calls_told (told.Look id answer) = look_calls id answer.value
calls_told (told.Stats answer) = stats_calls answer.value
calls_told (told.Compact answer) = compact_calls answer.value

module _ {D : Type 0} where
  abbrev pub told_of : Kept D → List (Event × Reply)
  told_of k = calls_told k.told.value

  -- the step is the call that the value shows
  abbrev pub Tells : Kept D → Step → Type 0
  Tells k e = told_of k ≡ (e.event, e.reply) ∷ []

-- A state at which a history may begin: no pin is held. If the store was just opened, the state is as after an opening.
pub record IsStart (just_opened : Bool) (s : State) : Type 0 where
  pub pins : s.pins ≡ []
  pub opened : just_opened ≡ true → (commits : ℕ) × IsOpened commits s

-- The store has made these steps since it was given, from its state then, at which no pin was held. They are a stretch
-- of the store on its disks.
pub record KeptFor {D : Type 0} (model : DiskModel D) (origin : Origin D) (kept : Kept D) (history : List Step) : Type 0
  where
    pub start : IsStart origin.opened origin.state
    pub given : history ≡ [] → (kept.store.value ≡ origin.store) × (kept.opened.value ≡ origin.opened)
    pub stands : Stretches model origin.store kept.store.value origin.state history (after origin.state history)

-- The owner of an event: a pin that it names is held by its owner.
abbrev pub MayAsk : State → ℕ → Event → Type 0
MayAsk s owner (Fetch slot want from limit) = (version : ℕ) × Holds s slot owner version
MayAsk s owner (Unpin slot) = (version : ℕ) × Holds s slot owner version
MayAsk s owner _ = Unit {0}

abbrev pub MayTell : {D : Type 0} → State → ℕ → Kept D → Type 0
MayTell s owner k = (event : Event) (reply : Reply) → told_of k ≡ (event, reply) ∷ [] → MayAsk s owner event

-- one step more, which the value shows, by each owner who may ask it
abbrev pub Adds : {D : Type 0} → DiskModel D → Kept D → Kept D → Type 0
Adds {D} model old new =
    (origin : Origin D) (history : List Step) (owner : ℕ) → KeptFor model origin old history
    → MayTell (after origin.state history) owner new
    → (e : Step) × (e.owner ≡ owner) × Tells new e × KeptFor model origin new (history ++ e ∷ [])

-- a state of a store stays one if the owners of its pins are changed
abbrev pub AsksNoOwner : {D : Type 0} → DiskModel D → Type 0
AsksNoOwner {D} model = (store : StoreTerm D) (s t : State) → SameButOwners s t → StandsFor model store s
    → StandsFor model store t
