-- The effect of one call of a pass. For private clauses alone.
use Rattle.std.specs.Prelude.{◌≡◌, ◌⊎◌, ◌++◌, Bool, List, [], ◌∷◌, false, true, ℕ}
use Rattle.store_core.specs.Calls.{Calls, WornAs}
use Rattle.store_machine.specs.Searches.{KeepsPin}
use Rattle.store_machine.specs.declared.machine.Event.{Event}
use Rattle.store_machine.specs.declared.machine.Event.TheVariants.{Pin}
use Rattle.store_machine.specs.declared.machine.Reply.{Reply}
use Rattle.store_machine.specs.declared.machine.Reply.TheVariants.{Pinned}
use Rattle.store_machine.specs.declared.machine.State.{State}
use Rattle.store_machine.specs.declared.machine.Step.{Step}
use Rattle.turn_gate.specs.Numbers.{has}
use Rattle.hall.specs.declared.hall.HallPass.{HallPass}
use Rattle.hall.specs.Desks.{IsAt, IsWorn, Stretches}
use Rattle.hall.specs.Passes.{HoldsPin, known}

abbrev pub TheCalls : Type 0
TheCalls = List (Event × Reply)

-- one of these calls took this pin
abbrev pub Takes : TheCalls → ℕ → ℕ → Type 0
Takes [] slot version = ⊥
Takes (c ∷ cs) slot version = ((c.0 ≡ Pin) × (c.1 ≡ Pinned slot version)) ⊎ Takes cs slot version

module _ {D : Type 0} where
  -- the pass's own calls from one value to a later one are these
  abbrev pub Made : HallPass D → HallPass D → TheCalls → Type 0
  Made p q calls = (s : State) → IsAt p s → Calls Stretches (has (known p).numbers) p q s calls

  -- by its calls the pass keeps its pins, gives them back, and takes others
  pub record HasPins (p q : HallPass D) (calls : TheCalls) : Type 0 where
    pub before : (slot version : ℕ) → HoldsPin q slot version
        → (HoldsPin p slot version × KeepsPin slot calls) ⊎ Takes calls slot version
    pub kept : (slot version : ℕ) → HoldsPin p slot version → KeepsPin slot calls → HoldsPin q slot version
    pub took : (slot version : ℕ) → calls ≡ (Pin, Pinned slot version) ∷ []
        → HoldsPin q slot version × ((other : ℕ) → HoldsPin p slot other → ⊥)

  -- the last event that the pass has seen is one of its own, and this call
  pub record IsLast (q : HallPass D) (calls : TheCalls) : Type 0 where
    pub before : List Step
    pub event : Step
    pub seen : (known q).seen ≡ before ++ event ∷ []
    pub own : has (known q).numbers event.owner ≡ true
    pub call : calls ≡ (event.event, event.reply) ∷ []

  pub record IsAnswered (p q : HallPass D) (calls : TheCalls) (worn_answer : Bool) : Type 0 where
    pub made : Made p q calls
    pub pins : HasPins p q calls
    pub worn : WornAs (IsWorn p) (IsWorn q) worn_answer
    pub last : worn_answer ≡ false → IsLast q calls
