-- For callers: pages that are fetched one after another and searched together.
use Rattle.std.specs.Prelude.{◌≡◌, ◌≢◌, ◌≤◌, None, Option, Some, length}
use Rattle.std.specs.Borrow.{Fml, MutBor}
use Rattle.std.specs.Io.BufRead.{Rests}
use Rattle.smarts_parse.specs.Pattern.{pattern_of}
use Rattle.store_core.specs.declared.service.Service as meaning
use Rattle.store_machine.specs.Answers.{AreMatched}
use Rattle.store_machine.specs.Searches.{fetched, records_of}
use Rattle.par_search.specs.Fetches.{AreFetches, ArePages, Calls, Makes}
use Rattle.par_search.specs.Searches.{SearchTerm, place_of}
use Rattle.par_search.specs.contracts.search.Search.{the_row}
use Rattle.par_search.specs.declared.batch.BatchHits.{BatchHits}
use Rattle.par_search.specs.declared.fault.SearchFault.{SearchFault}
use Rattle.par_search.specs.declared.fault.SearchFault.TheVariants as fault

-- all fetches were answered by pages; a fault says that the last found no memory, or that one more met a worn service
abbrev pub AreAnswered : Option SearchFault → Calls → Type 0
AreAnswered None calls = ArePages calls
AreAnswered (Some fault.Worn) calls = ArePages calls
AreAnswered (Some fault.NoMemory) calls = ¬ ArePages calls
AreAnswered (Some fault.Pins) calls = ⊥

-- Fetches from the old place of the search to its new one, and the records of all their pages that its pattern matches.
-- There are at most `most` fetches, and as many as that unless the search ended or met a fault
pub record IsBatch {S : Type 0} (of : meaning.Ghosts S) (old new : S) (search : SearchTerm) (batch : BatchHits)
    : Type 0 where
  pub calls : Calls
  pub made : Makes of old new calls
  pub fetches : AreFetches search.slot search.size search.want search.place calls (place_of batch.from)
  pub answered : AreAnswered batch.fault calls
  pub matched : AreMatched (pattern_of search.pattern) (records_of (fetched search.slot calls)) batch.hits.now
  pub tried : batch.tried ≡ length (records_of (fetched search.slot calls))
  pub most : length calls ≤ search.most
  pub full : batch.fault ≡ None → batch.from ≢ None → length calls ≡ search.most
  pub worn : batch.fault ≡ Some fault.Worn → of.worn new

-- the search is at the end of the batch
abbrev pub behind : SearchTerm → BatchHits → SearchTerm
behind old batch = record old { place = place_of batch.from }

-- as `behind`, once the hits are dropped
abbrev pub MovesBehind : MutBor SearchTerm → BatchHits → Fml
MovesBehind search batch = Rests the_row search (λ new. new ≡ behind search.now batch)
