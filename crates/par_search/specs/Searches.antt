-- A search as contracts see it, and its calls as the machine's.
use Rattle.std.specs.Prelude.{◌≡◌, ◌≤◌, Bool, Err, List, [], ◌∷◌, None, Ok, Option, Result, Some, false, if◌then◌else◌, true, ℕ}
use Rattle.smarts_parse.specs.Pattern.{pattern_of}
use Rattle.smarts_parse.specs.Sound.{IsSoundPattern}
use Rattle.smarts_parse.specs.declared.pattern.Pattern.{Pattern}
use Rattle.store_machine.specs.Searches.{At, End, Place, past}
use Rattle.store_machine.specs.Structures.{IsNeedOf}
use Rattle.store_machine.specs.declared.machine.Event.{Event}
use Rattle.store_machine.specs.declared.machine.Event.TheVariants as event
use Rattle.store_machine.specs.declared.machine.Found.{Found}
use Rattle.store_machine.specs.declared.machine.Reply.{Reply}
use Rattle.store_machine.specs.declared.machine.Reply.TheVariants as reply
use Rattle.store_core.specs.Records.{founds}
use Rattle.par_search.specs.declared.fault.SearchFault.{SearchFault}
use Rattle.par_search.specs.declared.fault.SearchFault.TheVariants as fault
use Rattle.par_search.specs.declared.room.PageHits.{PageHits}
use Rattle.par_search.specs.declared.worker.TheConstants.{MOST_RECORDS}

-- the pattern, the bits that it needs of a print, the pin, the size of a page, the most pages searched together, and
-- the place of the search
pub record SearchTerm : Type 0 where
  pub pattern : Pattern
  pub want : List Bool
  pub slot : ℕ
  pub version : ℕ
  pub size : ℕ
  pub most : ℕ
  pub place : Place

-- the pattern is sound, `want` is its need, and a page has 1 to 256 records
pub record IsSearch (search : SearchTerm) : Type 0 where
  pub sound : IsSoundPattern (pattern_of search.pattern)
  pub need : IsNeedOf (pattern_of search.pattern) search.want
  pub some : 1 ≤ search.size
  pub few : search.size ≤ MOST_RECORDS

abbrev pub place_of : Option ℕ → Place
place_of None = End
place_of (Some from) = At from

-- the place of a search after a page that was fetched from an identifier on
abbrev pub place_after : ℕ → List Found → Bool → Place
place_after from records last = if last then End else At (past from records)

-- a search for the pattern at its beginning
pub record HasBegun (pattern : Pattern) (size : ℕ) (search : SearchTerm) : Type 0 where
  pub pattern_is : search.pattern ≡ pattern
  pub need : IsNeedOf (pattern_of pattern) search.want
  pub size_is : search.size ≡ size
  pub place : search.place ≡ At 0

-- the pin that a start took
abbrev pub IsBegun : Result SearchTerm SearchFault → ℕ → ℕ → Type 0
IsBegun (Ok search) slot version = (slot ≡ search.slot) × (version ≡ search.version)
IsBegun (Err fault) slot version = ⊥

-- the pin in this slot was given back
abbrev pub IsReturned : Result (Unit {0}) SearchFault → ℕ → ℕ → Type 0
IsReturned (Ok _) pin slot = pin ≡ slot
IsReturned (Err fault) pin slot = ⊥

abbrev pub is_worn : {X : Type 0} → Result X SearchFault → Bool
is_worn (Ok x) = false
is_worn (Err fault.Worn) = true
is_worn (Err fault.Pins) = false
is_worn (Err fault.NoMemory) = false

-- The calls of a search. A worn service is not asked, and no call is made if no memory was taken.
abbrev pub start_calls : Result SearchTerm SearchFault → List (Event × Reply)
start_calls (Ok search) = (event.Pin, reply.Pinned search.slot search.version) ∷ []
start_calls (Err fault.Pins) = (event.Pin, reply.NoPin) ∷ []
start_calls (Err fault.Worn) = []
start_calls (Err fault.NoMemory) = []

abbrev pub page_calls : Event → Result PageHits SearchFault → List (Event × Reply)
page_calls e (Ok page) = (e, reply.Page (founds page.records.now) page.last) ∷ []
page_calls e (Err fault.Pins) = []
page_calls e (Err fault.Worn) = []
page_calls e (Err fault.NoMemory) = (e, reply.NoMemory) ∷ []

abbrev pub calls_at : Place → SearchTerm → Result PageHits SearchFault → List (Event × Reply)
calls_at (At from) search result = page_calls (event.Fetch search.slot search.want from search.size) result
calls_at End search result = []

abbrev pub next_calls : SearchTerm → Result PageHits SearchFault → List (Event × Reply)
next_calls search result = calls_at search.place search result

abbrev pub close_calls : ℕ → Result (Unit {0}) SearchFault → List (Event × Reply)
close_calls slot (Ok _) = (event.Unpin slot, reply.Unpinned) ∷ []
close_calls slot (Err fault) = []
