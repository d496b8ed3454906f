-- Calls of one caller in stretches that follow each other, and the pins that they move.
use Rattle.std.proofs.Common.{◌≡◌, ◌≢◌, ◌⊎◌, ◌↔◌, ap, Err, Ok, refl, Result, true, ℕ}
use Rattle.par_search.specs.Searches.{SearchTerm, calls_at, is_worn, start_calls}
use Rattle.par_search.specs.declared.fault.SearchFault.{SearchFault}
use Rattle.par_search.specs.declared.fault.SearchFault.TheVariants as faults
use Rattle.par_search.specs.declared.room.PageHits.{PageHits}
use Rattle.store_core.specs.Calls as core
use Rattle.store_core.specs.Calls.{NotRaised, SameHeld, WornAs}
use Rattle.store_core.specs.declared.service.Service as meaning
use Rattle.store_machine.specs.Searches.{At, End, Place}
use Rattle.store_machine.specs.declared.machine.State.{State}
use Rattle.lookup.proofs.Held.{none_taken}
use Rattle.session_acts.specs.Cursors.{Calls}
use Rattle.session_acts.proofs.Held.{Leave, leave-moves}
pub use Rattle.session_run.specs.TalkLaws.{uses-more, uses-none}
use Rattle.session_run.specs.Made.{Uses}
use Rattle.session_run.specs.Searched.{Begins}

module _ {S : Type 0} {of : meaning.Ghosts S} where
  -- calls that leave the pins
  pub uses-kept : {old new : S} (calls : Calls)
      → ((s : State) → of.at old s → core.Calls of.stretch (of.owns old) old new s calls) → Leave calls
      → SameHeld (of.holds old) (of.holds new) → NotRaised (of.bounds old) (of.bounds new) → Uses of old new calls
  uses-kept {old} {new} calls made leave held bounds = record {
    makes = record { made = made };
    pins = leave-moves (of.holds old) (of.holds new) calls leave held;
    bounds = bounds;
  }

-- a search that did not begin
pub unstarted : {S : Type 0} (of : meaning.Ghosts S) (old new : S) (fault : SearchFault)
    → ((s : State) → of.at old s → core.Calls of.stretch (of.owns old) old new s (start_calls (Err fault)))
    → ((s v : ℕ) → of.holds new s v ↔ (of.holds old s v ⊎ ⊥)) → NotRaised (of.bounds old) (of.bounds new)
    → (fault ≡ faults.Worn → of.worn new) → Begins (Uses of old new) (of.worn new) (Err fault)
unstarted of old new faults.Pins made held bounds worn =
    uses-kept _ made (refl, tt) (none_taken (of.holds old) (of.holds new) held) bounds
unstarted of old new faults.NoMemory made held bounds worn =
    uses-kept _ made tt (none_taken (of.holds old) (of.holds new) held) bounds
unstarted of old new faults.Worn made held bounds worn =
    (uses-kept _ made tt (none_taken (of.holds old) (of.holds new) held) bounds, worn refl)

-- the calls of a page leave the pins
pub page_leaves : (place : Place) (search : SearchTerm) (r : Result PageHits SearchFault) → Leave (calls_at place search r)
page_leaves End search r = tt
page_leaves (At from) search (Ok page) = (refl, tt)
page_leaves (At from) search (Err faults.Pins) = tt
page_leaves (At from) search (Err faults.Worn) = tt
page_leaves (At from) search (Err faults.NoMemory) = (refl, tt)

-- a search whose service is worn
abbrev unbegun : SearchFault → Result SearchTerm SearchFault
unbegun fault = Err fault

pub start_worn : (fault : SearchFault) (before worn : Type 0) → (unbegun fault ≢ unbegun faults.NoMemory
    → WornAs before worn (is_worn (unbegun fault))) → fault ≡ faults.Worn → worn
start_worn faults.Worn before worn w e = (w (λ p. cc)).1 refl
start_worn faults.Pins before worn w e = cc
start_worn faults.NoMemory before worn w e = cc

abbrev unreturned : SearchFault → Result (Unit {0}) SearchFault
unreturned fault = Err fault

pub close_worn : (fault : SearchFault) → fault ≡ faults.Worn → is_worn (unreturned fault) ≡ true
close_worn fault e = ap (λ (f : SearchFault). is_worn (unreturned f)) e

pub unreturned_pin : (old new : ℕ → ℕ → Type 0) → ((s v : ℕ) → new s v ↔ (old s v × ¬ ⊥)) → SameHeld old new
unreturned_pin old new h s v = (λ x. ((h s v).0 x).0, λ x. (h s v).1 (x, λ k. k))
