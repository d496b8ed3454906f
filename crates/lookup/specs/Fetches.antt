-- For callers: the calls of a lookup, and its answers by them.
use Rattle.std.specs.Prelude.{◌≡◌, ◌≢◌, ◌⊎◌, ◌↔◌, ◌++◌, ℕ, Bool, List, [], ◌∷◌, None, Option, Some, Result, Ok, Err}
pub use Rattle.par_search.specs.Fetches.{AreFetches, Calls, Makes}
use Rattle.par_search.specs.declared.fault.SearchFault.{SearchFault}
use Rattle.par_search.specs.declared.fault.SearchFault.TheVariants as faults
use Rattle.store_core.specs.Calls.{SameHeld}
use Rattle.store_core.specs.declared.service.Service as meaning
use Rattle.store_machine.specs.Searches.{Place, At, End, fetched, records_of}
use Rattle.store_machine.specs.declared.machine.Event.TheVariants.{Pin, Unpin}
use Rattle.store_machine.specs.declared.machine.Found.{Found}
use Rattle.store_machine.specs.declared.machine.Reply.TheVariants.{NoPin, Pinned, Unpinned}

-- a pin that was taken in a slot without one, and fetches of it, from the beginning to a place
pub record Fetches (held : ℕ → ℕ → Type 0) (size : ℕ) (want : List Bool) (place : Place) : Type 0 where
  pub slot : ℕ
  pub version : ℕ
  pub pages : Calls
  pub free : (other : ℕ) → held slot other → ⊥
  pub are : AreFetches slot size want (At 0) pages place

-- the pin and the fetches
abbrev pub begun_calls : ℕ → ℕ → Calls → Calls
begun_calls slot version pages = (Pin, Pinned slot version) ∷ pages

-- and the pin is given back
abbrev pub lookup_calls : ℕ → ℕ → Calls → Calls
lookup_calls slot version pages = (Pin, Pinned slot version) ∷ (pages ++ (Unpin slot, Unpinned) ∷ [])

-- the same pins are held, and one more
abbrev pub HeldBesides : (ℕ → ℕ → Type 0) → ℕ → ℕ → (ℕ → ℕ → Type 0) → Type 0
HeldBesides old slot version new = (s v : ℕ) → new s v ↔ (old s v ⊎ ((s ≡ slot) × (v ≡ version)))

-- A lookup of the wanted bits by pages of a size, by its answer. It went to the end, and this is of the records of all
-- pages. Or it was cut short by want of memory, or asked nothing. Or no pin was free, or the service was worn, before
-- the pin or after it
pub data Looks {S X : Type 0} (of : meaning.Ghosts S) (old new : S) (size : ℕ) (want : List Bool)
    (Is : ℕ → List Found → X → Type 0) : Result X SearchFault → Type 0 where
  Whole : (x : X) (f : Fetches (of.holds old) size want End)
      (made : Makes of old new (lookup_calls f.slot f.version f.pages)) (held : SameHeld (of.holds old) (of.holds new))
      (is : Is f.version (records_of (fetched f.slot f.pages)) x) → Looks of old new size want Is (Ok x)
  CutShort : (place : Place) (f : Fetches (of.holds old) size want place)
      (made : Makes of old new (lookup_calls f.slot f.version f.pages)) (held : SameHeld (of.holds old) (of.holds new))
      → Looks of old new size want Is (Err faults.NoMemory)
  Unasked : (made : Makes of old new []) (held : SameHeld (of.holds old) (of.holds new))
      → Looks of old new size want Is (Err faults.NoMemory)
  NoneFree : (made : Makes of old new ((Pin, NoPin) ∷ [])) (held : SameHeld (of.holds old) (of.holds new))
      → Looks of old new size want Is (Err faults.Pins)
  WornBefore : (made : Makes of old new []) (held : SameHeld (of.holds old) (of.holds new)) (worn : of.worn new)
      → Looks of old new size want Is (Err faults.Worn)
  WornAfter : (place : Place) (f : Fetches (of.holds old) size want place)
      (made : Makes of old new (begun_calls f.slot f.version f.pages))
      (held : HeldBesides (of.holds old) f.slot f.version (of.holds new)) (worn : of.worn new)
      → Looks of old new size want Is (Err faults.Worn)

-- if it failed with a pin, this holds of the version and the fetches
abbrev pub FailsBy : {S X : Type 0} {of : meaning.Ghosts S} {old new : S} {size : ℕ} {want : List Bool}
    {Is : ℕ → List Found → X → Type 0} {r : Result X SearchFault} → (ℕ → Calls → Type 0)
    → Looks of old new size want Is r → Type 0
FailsBy P (Whole x f made held is) = Unit {0}
FailsBy P (CutShort place f made held) = P f.version f.pages
FailsBy P (Unasked made held) = Unit {0}
FailsBy P (NoneFree made held) = Unit {0}
FailsBy P (WornBefore made held worn) = Unit {0}
FailsBy P (WornAfter place f made held worn) = P f.version f.pages

-- a lookup of which this holds if it failed with a pin
abbrev pub LooksSo : {S X : Type 0} → (ℕ → Calls → Type 0) → meaning.Ghosts S → S → S → ℕ → List Bool
    → (ℕ → List Found → X → Type 0) → Result X SearchFault → Type 0
LooksSo P of old new size want Is r = (looks : Looks of old new size want Is r) × FailsBy P looks

-- nothing was fetched, or the version is not the one that is known
abbrev pub IsAnew : ℕ → ℕ → Calls → Type 0
IsAnew known version pages = (pages ≡ []) ⊎ (version ≢ known)

-- As `Looks`, unless the pinned version is the known one: then the pin is given back at once
pub data LooksUnless {S X : Type 0} (known : ℕ) (of : meaning.Ghosts S) (old new : S) (size : ℕ) (want : List Bool)
    (Is : ℕ → List Found → X → Type 0) : Result (Option X) SearchFault → Type 0 where
  Known : (f : Fetches (of.holds old) size want (At 0)) (none : f.pages ≡ []) (is : f.version ≡ known)
      (made : Makes of old new (lookup_calls f.slot f.version f.pages)) (held : SameHeld (of.holds old) (of.holds new))
      → LooksUnless known of old new size want Is (Ok None)
  Looked : (x : X) (looks : Looks of old new size want
      (λ version records y. (version ≢ known) × Is version records y) (Ok x))
      → LooksUnless known of old new size want Is (Ok (Some x))
  Failed : (fault : SearchFault) (looks : Looks of old new size want Is (Err fault))
      (anew : FailsBy (IsAnew known) looks) → LooksUnless known of old new size want Is (Err fault)
