-- The results of one call for its caller.
use Rattle.std.specs.Prelude.{◌≡◌, ◌↔◌, ◌≤◌, Bool, Err, false, IfSome, IsSomeAnd, List, None, Ok, Option, Result, Some, true, ℕ}
use Rattle.snap_registry.specs.declared.Pin.{Pin}
use Rattle.store_machine.specs.Runs.{calls_of}
use Rattle.store_machine.specs.declared.machine.Event.{Event}
use Rattle.store_machine.specs.declared.machine.Reply.{Reply}
use Rattle.store_machine.specs.declared.machine.State.{State}
use Rattle.store_machine.specs.declared.machine.Step.{Step}
use Rattle.store_core.specs.declared.words.CallFault.{CallFault}
use Rattle.store_core.specs.declared.words.CallFault.TheVariants as call
use Rattle.store_core.specs.declared.words.CommitFault.{CommitFault}
use Rattle.store_core.specs.declared.words.CommitFault.TheVariants as commit
use Rattle.store_core.specs.declared.words.CompactFault.{CompactFault}
use Rattle.store_core.specs.declared.words.CompactFault.TheVariants as compact

-- there is a stretch in which the caller's own calls are these
pub record Calls {S : Type 0} (stretch : S → S → State → List Step → State → Type 0) (owns : ℕ → Bool) (old new : S)
    (s : State) (calls : List (Event × Reply)) : Type 0 where
  pub steps : List Step
  pub after : State
  pub stands : stretch old new s steps after
  pub own : calls_of owns steps ≡ calls

abbrev pub is_worn_out : {X : Type 0} → Result X CommitFault → Bool
is_worn_out (Ok x) = false
is_worn_out (Err commit.Worn) = true
is_worn_out (Err _) = false

abbrev pub is_worn : {X : Type 0} → Result X CallFault → Bool
is_worn (Ok x) = false
is_worn (Err call.Worn) = true
is_worn (Err call.NoMemory) = false

abbrev pub is_compact_worn : {X : Type 0} → Result X CompactFault → Bool
is_compact_worn (Ok x) = false
is_compact_worn (Err compact.Worn) = true
is_compact_worn (Err _) = false

-- a worn service answers that it is, and one that answers so is worn afterwards
abbrev pub WornAs : Type 0 → Type 0 → Bool → Type 0
WornAs before after answer = (before → answer ≡ true) × (answer ≡ true → after)

-- the answer is not want of memory
abbrev pub NeedsNone : {X : Type 0} → Result X CallFault → Type 0
NeedsNone (Ok x) = Unit {0}
NeedsNone (Err call.Worn) = Unit {0}
NeedsNone (Err call.NoMemory) = ⊥

-- the pin that a call took
abbrev pub IsTaken : Result (Option Pin) CallFault → ℕ → ℕ → Type 0
IsTaken (Ok (Some p)) slot version = (slot ≡ p.slot) × (version ≡ p.version)
IsTaken (Ok None) slot version = ⊥
IsTaken (Err fault) slot version = ⊥

-- the pin in this slot was given back
abbrev pub IsReturned : Result (Unit {0}) CallFault → Pin → ℕ → Type 0
IsReturned (Ok _) pin slot = pin.slot ≡ slot
IsReturned (Err fault) pin slot = ⊥

-- the held pins are as before
abbrev pub SameHeld : (ℕ → ℕ → Type 0) → (ℕ → ℕ → Type 0) → Type 0
SameHeld old new = (slot version : ℕ) → new slot version ↔ old slot version

-- if a bound was known, one that is no greater is known
abbrev pub NotAbove : Option ℕ → Option ℕ → Type 0
NotAbove old new = IfSome old (λ n. IsSomeAnd new (λ m. m ≤ n))

abbrev pub NotRaised : Option ℕ × Option ℕ → Option ℕ × Option ℕ → Type 0
NotRaised old new = NotAbove old.0 new.0 × NotAbove old.1 new.1
