-- For private clauses alone: a search with its counts, and how it goes on by a page whose hits are written.
use Rattle.std.specs.Prelude.{◌≡◌, ◌⊎◌, ◌<◌, ℕ, ◌+◌, Bool, true, false, List, [], ◌∷◌, ◌++◌, get_or, length, map, Option, None, Some, Result, Ok, Err}
use Rattle.par_search.specs.Fetches.{AreFetches, ArePages}
use Rattle.par_search.specs.Searches.{SearchTerm, place_after}
use Rattle.par_search.specs.declared.fault.SearchFault.{SearchFault}
use Rattle.par_search.specs.declared.fault.SearchFault.TheVariants as faults
use Rattle.shell_lang.specs.Reply as line
use Rattle.shell_lang.specs.Reply.{reply_line, text_of}
use Rattle.smarts_parse.specs.Pattern.{pattern_of}
use Rattle.store_machine.specs.Answers.{AreMatched}
use Rattle.store_machine.specs.Searches.{At, End, fetched, records_of}
use Rattle.store_machine.specs.declared.machine.Event.TheVariants as events
use Rattle.store_machine.specs.declared.machine.Found.{Found}
use Rattle.store_machine.specs.declared.machine.Reply.TheVariants as replies
use Rattle.session_acts.specs.Acts.{Advances, Lines, page_end}
use Rattle.session_acts.specs.Cursors.{Calls, Cursor, IsSearched}
use Rattle.session_run.specs.Made.{Tells}
use Rattle.session_run.specs.declared.cursors.Cursor as rust
use Rattle.session_run.specs.declared.listing.Progress.{Progress}
use Rattle.session_run.specs.declared.listing.Progress.TheVariants as goes
use Rattle.session_run.specs.declared.listing.Shown.{Shown}
use Rattle.session_run.specs.declared.listing.Walk.{Walk}
use Rattle.dialogue.specs.declared.end.Stop.{Stop}
use Rattle.dialogue.specs.declared.end.Stop.TheVariants as stops

-- the first of the hits were written after a text
abbrev pub ArePartlyWritten : List ℕ → List ℕ → List ℕ → Type 0
ArePartlyWritten hits out out' = (some others : List ℕ) × (hits ≡ some ++ others)
    × (out' ≡ out ++ text_of (map line.Hit some))

-- all hits were written, or the first of them
abbrev pub AreWritten : Bool → List ℕ → List ℕ → List ℕ → Type 0
AreWritten true hits out out' = out' ≡ out ++ text_of (map line.Hit hits)
AreWritten false hits out out' = ArePartlyWritten hits out out'

-- a page was fetched, and its hits were written
pub record IsPage (Made : Calls → Type 0) (old new : SearchTerm) (out out' : List ℕ) (shown : Shown) : Type 0 where
  pub from : ℕ
  pub records : List Found
  pub hits : List ℕ
  pub place : old.place ≡ At from
  pub made : Made ((events.Fetch old.slot old.want from old.size, replies.Page records shown.last) ∷ [])
  pub matched : AreMatched (pattern_of old.pattern) records hits
  pub moved : new ≡ record old { place = place_after from records shown.last }
  pub tried : shown.tried ≡ length records
  pub count : shown.hits ≡ length hits
  pub written : AreWritten shown.whole hits out out'

-- the search was at its end, and nothing was done
pub record IsNoPage (Made : Calls → Type 0) (old new : SearchTerm) (out out' : List ℕ) (shown : Shown) : Type 0 where
  pub place : old.place ≡ End
  pub made : Made []
  pub same : new ≡ old
  pub unwritten : out' ≡ out
  pub tried : shown.tried ≡ 0
  pub count : shown.hits ≡ 0
  pub last : shown.last ≡ true

-- a fetch found no memory, or no call was made
pub record IsLost (Made : Calls → Type 0) (old new : SearchTerm) (out out' : List ℕ) : Type 0 where
  pub calls : Calls
  pub made : Made calls
  pub by : (calls ≡ [])
      ⊎ ((from : ℕ) × (old.place ≡ At from)
      × (calls ≡ (events.Fetch old.slot old.want from old.size, replies.NoMemory) ∷ []))
  pub same : new ≡ old
  pub unwritten : out' ≡ out

-- a step of a search, by its result
abbrev pub Pages : (Calls → Type 0) → Type 0 → SearchTerm → SearchTerm → List ℕ → List ℕ → Result Shown SearchFault
    → Type 0
Pages Made IsWorn old new out out' (Ok shown) =
    IsPage Made old new out out' shown ⊎ IsNoPage Made old new out out' shown
Pages Made IsWorn old new out out' (Err faults.NoMemory) = IsLost Made old new out out'
Pages Made IsWorn old new out out' (Err faults.Worn) = Made [] × (new ≡ old) × (out' ≡ out) × IsWorn
Pages Made IsWorn old new out out' (Err faults.Pins) = ⊥

abbrev pub Counts : Walk → Walk → Result Shown SearchFault → Type 0
Counts old new (Ok shown) = (new.tried ≡ old.tried + shown.tried) × (new.hits ≡ old.hits + shown.hits)
Counts old new (Err fault) = (new.tried ≡ old.tried) × (new.hits ≡ old.hits)

-- pages from one place of a search to another, by these calls. All their hits were written, or the first of them; then
-- the last fetch may have found no memory
pub record Stretch (Made : Calls → Type 0) (old new : SearchTerm) (tried count : ℕ) (out : List ℕ) (whole : Bool)
    (out' : List ℕ) : Type 0 where
  pub pages : Calls
  pub hits : List ℕ
  pub made : Made pages
  pub fetches : AreFetches old.slot old.size old.want old.place pages new.place
  pub count_is : tried ≡ length (records_of (fetched old.slot pages))
  pub matched : AreMatched (pattern_of old.pattern) (records_of (fetched old.slot pages)) hits
  pub moved : new ≡ record old { place = new.place }
  pub length_is : count ≡ length hits
  pub written : AreWritten whole hits out out'
  pub answered : whole ≡ true → ArePages pages

-- a batch of pages, by how the search goes on
abbrev pub GoesOn : (Calls → Type 0) → Type 0 → SearchTerm → SearchTerm → ℕ → ℕ → List ℕ → List ℕ → Progress → Type 0
GoesOn Made IsWorn old new tried count out out' goes.More = Stretch Made old new tried count out true out'
GoesOn Made IsWorn old new tried count out out' goes.Ended =
    Stretch Made old new tried count out true out' × (new.place ≡ End)
GoesOn Made IsWorn old new tried count out out' goes.Short = Stretch Made old new tried count out false out'
GoesOn Made IsWorn old new tried count out out' goes.Worn = Stretch Made old new tried count out false out' × IsWorn

-- as `GoesOn`, with its counts
pub record Goes (Made : Calls → Type 0) (IsWorn : Type 0) (old new : Walk) (out out' : List ℕ) (progress : Progress)
    : Type 0 where
  pub tried : ℕ
  pub count : ℕ
  pub goes : GoesOn Made IsWorn old.search new.search tried count out out' progress
  pub tried_is : new.tried ≡ old.tried + tried
  pub hits_is : new.hits ≡ old.hits + count

-- by the fault of the last fetch, whether all hits were written, and the place of the next fetch
abbrev pub progress_by : Option SearchFault → Bool → Option ℕ → Progress
progress_by (Some faults.Worn) whole from = goes.Worn
progress_by (Some faults.NoMemory) whole from = goes.Short
progress_by (Some faults.Pins) whole from = goes.Short
progress_by None false from = goes.Short
progress_by None true (Some n) = goes.More
progress_by None true None = goes.Ended

-- the search as contracts of cursors see it
abbrev pub cursor_of : rust.Cursor → Cursor
cursor_of c = record {
  name = c.name.items;
  pattern = pattern_of c.walk.search.pattern;
  want = c.walk.search.want;
  slot = c.walk.search.slot;
  version = c.walk.search.version;
  place = c.walk.search.place;
  tried = c.walk.tried;
  hits = c.walk.hits;
}

abbrev pub cursors_of : List rust.Cursor → List Cursor
cursors_of list = map cursor_of list

-- the cursor at this place has the name
pub record IsNamedAt (list : List rust.Cursor) (name : List ℕ) (place : ℕ) : Type 0 where
  pub within : place < length list
  pub named : (any : rust.Cursor) → (get_or list place any).name.items ≡ name

-- their pages have one size
abbrev pub AreSized : ℕ → List rust.Cursor → Type 0
AreSized size [] = Unit {0}
AreSized size (c ∷ cs) = (c.walk.search.size ≡ size) × AreSized size cs

-- an answer to `next` by its cursor
abbrev pub CursorAnswer : ℕ → Cursor → Calls → Lines → Cursor → Type 0
CursorAnswer size c calls lines c' =
    ((calls ≡ []) × (lines ≡ line.MemoryFault ∷ []) × (c' ≡ c)) ⊎ Advances size c calls lines c'

-- the line after a page was written, or why it was not
abbrev pub EndsPage : Cursor → Result Shown SearchFault → List ℕ → List ℕ → Result (Unit {0}) Stop → Type 0
EndsPage c (Ok shown) out out' (Ok _) = (shown.whole ≡ true) × (out' ≡ out ++ reply_line (page_end shown.last c))
EndsPage c (Ok shown) out out' (Err stops.NoMemory) = Unit {0}
EndsPage c (Ok shown) out out' (Err stops.Worn) = ⊥
EndsPage c (Err faults.NoMemory) out out' result = Tells line.MemoryFault out out' result
EndsPage c (Err faults.Pins) out out' result = Tells line.MemoryFault out out' result
EndsPage c (Err faults.Worn) out out' result = result ≡ Err stops.Worn

-- pages from the beginning on, by these calls. All their hits were written, or the first of them; then the last fetch
-- may have found no memory
pub record Listing (Made : Calls → Type 0) (begun now : SearchTerm) (tried count : ℕ) (out : List ℕ) (whole : Bool)
    (out' : List ℕ) : Type 0 where
  pub pages : Calls
  pub hits : List ℕ
  pub made : Made pages
  pub searched : IsSearched (pattern_of begun.pattern) begun.slot begun.size now.place pages tried hits
  pub want : searched.want ≡ begun.want
  pub moved : now ≡ record begun { place = now.place }
  pub length_is : count ≡ length hits
  pub written : AreWritten whole hits out out'
  pub answered : whole ≡ true → ArePages pages

-- a search was listed to its end, or was cut short, or the service was worn
pub data Listed (Made : Calls → Type 0) (IsWorn : Type 0) (old new : Walk) (out out' : List ℕ)
    : Result Bool Stop → Type 0 where
  Whole : (all : Listing Made old.search new.search new.tried new.hits out true out') (ended : new.search.place ≡ End)
      → Listed Made IsWorn old new out out' (Ok true)
  Part : (tried count : ℕ) (some : Listing Made old.search new.search tried count out false out')
      → Listed Made IsWorn old new out out' (Ok false)
  Broke : (tried count : ℕ) (whole : Bool) (some : Listing Made old.search new.search tried count out whole out')
      (worn : IsWorn) → Listed Made IsWorn old new out out' (Err stops.Worn)
