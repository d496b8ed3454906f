-- For private clauses alone: pages that were fetched, and shares of their records, each searched by its worker.
use Rattle.std.specs.Prelude.{◌≡◌, ◌≢◌, ◌≤◌, ◌+◌, All, Bool, IfSome, List, [], ◌∷◌, None, Option, Some, length, map, slice_get, take, ℕ}
use Rattle.std.specs.List.{flat_map}
use Rattle.smarts_parse.specs.Pattern.{PatternTerm}
use Rattle.snap_registry.specs.declared.Pin.{Pin}
use Rattle.store_core.specs.Calls.{NotRaised, SameHeld}
use Rattle.store_core.specs.Records.{PageTerm, Shared, founds}
use Rattle.store_core.specs.declared.service.Service as meaning
use Rattle.store_machine.specs.Answers.{AreMatched}
use Rattle.store_machine.specs.Searches.{Place, fetched, records_of}
use Rattle.par_search.specs.Batches.{AreAnswered}
use Rattle.par_search.specs.Fetches.{AreFetches, Calls, Makes}
use Rattle.par_search.specs.Flags.{WorkerTerm, piece_of}
use Rattle.par_search.specs.Searches.{place_of}
use Rattle.par_search.specs.declared.batch.Fetched.{Fetched}
use Rattle.par_search.specs.declared.batch.TheConstants.{MOST_PAGES}
use Rattle.par_search.specs.declared.fault.SearchFault.TheVariants.{Worn}
use Rattle.par_search.specs.declared.worker.TheConstants.{MOST_RECORDS}

-- the records of pages, one after another
abbrev pub records_in : List PageTerm → List Shared
records_in pages = flat_map (λ p. p.records) pages

-- no page has more records than a page may have
abbrev pub AreSmall : List PageTerm → Type 0
AreSmall [] = Unit {0}
AreSmall (p ∷ ps) = (length p.records ≤ MOST_RECORDS) × AreSmall ps

-- the hits of all workers, in order
abbrev pub hits_in : List WorkerTerm → List ℕ
hits_in workers = flat_map (λ w. w.hits) workers

-- each worker has the hits of its share; shares are of this size, and the first has this number
abbrev pub AreFoundFrom : PatternTerm → (size number : ℕ) → List Shared → List WorkerTerm → Type 0
AreFoundFrom pattern size number records workers =
    (k : ℕ) (worker : WorkerTerm) → slice_get workers k ≡ Some worker
    → AreMatched pattern (founds (piece_of size (number + k) records)) worker.hits

-- the service holds the pin, and each of these pages has room for a fetch of this size, from an identifier on
pub record CanFetch {S : Type 0} (of : meaning.Ghosts S) (service : S) (pin : Pin) (size : ℕ) (from : Option ℕ)
    (pages : List PageTerm) : Type 0 where
  pub held : of.holds service pin.slot pin.version
  pub some : 1 ≤ size
  pub few : size ≤ MOST_RECORDS
  pub in_range : IfSome from (λ n. n ≤ 1000000000)
  pub few_pages : length pages ≤ MOST_PAGES
  pub room : All (λ (p : PageTerm). size ≤ p.room) pages

-- the first of these pages were fetched
pub record HasFetched {S : Type 0} (of : meaning.Ghosts S) (old new : S) (slot size : ℕ) (want : List Bool)
    (place : Place) (pages : List PageTerm) (result : Fetched) : Type 0 where
  pub calls : Calls
  pub made : Makes of old new calls
  pub fetches : AreFetches slot size want place calls (place_of result.from)
  pub answered : AreAnswered result.fault calls
  pub within : result.count ≤ length pages
  pub small : AreSmall (take result.count pages)
  pub records : records_of (fetched slot calls) ≡ founds (records_in (take result.count pages))
  pub tried : result.tried ≡ length (records_in (take result.count pages))
  pub most : length calls ≤ length pages
  pub full : result.fault ≡ None → result.from ≢ None → length calls ≡ length pages
  pub whole : result.fault ≡ None → result.from ≢ None → result.count ≡ length pages
  pub from : IfSome result.from (λ n. n ≤ 1000000000)
  pub worn : result.fault ≡ Some Worn → of.worn new
  pub held : SameHeld (of.holds old) (of.holds new)
  pub bounds : NotRaised (of.bounds old) (of.bounds new)

-- the first of these pages were fetched, and all pages, with these among them, have the room that they had
pub record FetchesInto {S : Type 0} (of : meaning.Ghosts S) (service service' : S) (pin : Pin) (size : ℕ)
    (want : List Bool) (from : Option ℕ) (old new these : List PageTerm) (result : Fetched) : Type 0 where
  pub fetched : HasFetched of service service' pin.slot size want (place_of from) these result
  pub room : map {B = ℕ} (λ p. p.room) new ≡ map {B = ℕ} (λ p. p.room) old
