-- Pins in their slots: for callers, and for the arrays of a registry.
use Rattle.std.specs.Prelude.{◌≢◌, ◌==◌, All, Bool, List, [], ◌∷◌, not, ℕ}
use Rattle.std.specs.List.{range_with_len}
use Rattle.std.specs.List.Sorted.{IsPermutation}
use Rattle.snap_registry.specs.declared.Pin.{Pin}

-- a pin of another slot
abbrev pub is_other : ℕ → Pin → Bool
is_other slot p = not (p.slot == slot)

-- no pin has this slot
abbrev pub IsFree : ℕ → List Pin → Type 0
IsFree slot pins = All (λ q. q.slot ≢ slot) pins

-- all slots, each once, in any order
abbrev pub AreSlots : List ℕ → Type 0
AreSlots slots = IsPermutation (range_with_len 0 64) slots

-- the slots and versions of two lists, as pins
abbrev pub pins_of : List ℕ → List ℕ → List Pin
pins_of [] versions = []
pins_of (s ∷ ss) [] = []
pins_of (s ∷ ss) (v ∷ vs) = record { slot = s; version = v } ∷ pins_of ss vs
