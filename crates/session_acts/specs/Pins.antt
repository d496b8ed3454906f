-- For proofs, and for private clauses of crates above: the pins that are held, by the calls made, and those of the open
-- cursors.
use Rattle.std.specs.Prelude.{◌≡◌, ◌⊎◌, ◌↔◌, ℕ, List, [], ◌∷◌}
use Rattle.store_core.specs.Calls.{SameHeld}
use Rattle.store_machine.specs.declared.machine.Event.{Event}
use Rattle.store_machine.specs.declared.machine.Event.TheVariants as events
use Rattle.store_machine.specs.declared.machine.Reply.{Reply}
use Rattle.store_machine.specs.declared.machine.Reply.TheVariants as replies
use Rattle.session_acts.specs.Cursors.{Calls, Cursor}

-- the effect of a call on the held pins
pub data Effect : Type 0 where
  Takes : (slot version : ℕ) → Effect
  Returns : (slot : ℕ) → Effect
  Leaves : Effect

abbrev pub pin_effect : Reply → Effect
pin_effect (replies.Pinned slot version) = Takes slot version
pin_effect _ = Leaves

abbrev pub effect : Event → Reply → Effect
effect events.Pin reply = pin_effect reply
effect (events.Unpin slot) reply = Returns slot
effect _ reply = Leaves

-- the pins that are held after it, and after calls, by slot and version
abbrev pub HeldBy : (ℕ → ℕ → Type 0) → Effect → ℕ → ℕ → Type 0
HeldBy held (Takes slot version) s v = held s v ⊎ ((s ≡ slot) × (v ≡ version))
HeldBy held (Returns slot) s v = held s v × ¬ (slot ≡ s)
HeldBy held Leaves s v = held s v

abbrev pub HeldAfter : (ℕ → ℕ → Type 0) → Calls → ℕ → ℕ → Type 0
HeldAfter held [] s v = held s v
HeldAfter held (c ∷ cs) s v = HeldAfter (HeldBy held (effect c.0 c.1)) cs s v

-- each pin was taken in a slot that held no pin
abbrev pub IsApart : (ℕ → ℕ → Type 0) → Effect → Type 0
IsApart held (Takes slot version) = (other : ℕ) → held slot other → ⊥
IsApart held (Returns slot) = Unit {0}
IsApart held Leaves = Unit {0}

abbrev pub AreApart : (ℕ → ℕ → Type 0) → Calls → Type 0
AreApart held [] = Unit {0}
AreApart held (c ∷ cs) = IsApart held (effect c.0 c.1) × AreApart (HeldBy held (effect c.0 c.1)) cs

-- calls took pins in free slots and gave pins back, and others stay
pub record MovePins (calls : Calls) (held held' : ℕ → ℕ → Type 0) : Type 0 where
  pub now : SameHeld (HeldAfter held calls) held'
  pub apart : AreApart held calls

-- a cursor's pin is in the slot
abbrev pub HasSlot : List Cursor → ℕ → Type 0
HasSlot [] slot = ⊥
HasSlot (c ∷ cs) slot = (c.slot ≡ slot) ⊎ HasSlot cs slot

-- the pins of the cursors are held, in slots of their own
abbrev pub AreHeld : (ℕ → ℕ → Type 0) → List Cursor → Type 0
AreHeld held [] = Unit {0}
AreHeld held (c ∷ cs) = held c.slot c.version × ¬ HasSlot cs c.slot × AreHeld held cs

-- the pins that belong to no cursor are the same
abbrev pub SameOthers : (ℕ → ℕ → Type 0) → List Cursor → (ℕ → ℕ → Type 0) → List Cursor → Type 0
SameOthers old cursors new cursors' =
    (slot version : ℕ) → (new slot version × ¬ HasSlot cursors' slot) ↔ (old slot version × ¬ HasSlot cursors slot)
