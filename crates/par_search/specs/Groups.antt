-- For private clauses alone: groups of pages, each matched while the next is fetched.
use Rattle.std.specs.Prelude.{◌≡◌, ◌≢◌, ◌≤◌, ◌+◌, ◌*◌, ◌++◌, All, List, None, length, ℕ}
use Rattle.std.specs.Int.{div_ceil}
use Rattle.smarts_parse.specs.Pattern.{PatternTerm}
use Rattle.smarts_parse.specs.Sound.{IsSoundPattern}
use Rattle.store_core.specs.Records.{PageTerm, founds}
use Rattle.store_machine.specs.Answers.{AreMatched}
use Rattle.store_machine.specs.declared.machine.Found.{Found}
use Rattle.par_search.specs.Flags.{HaveSameRoom, WorkerTerm}
use Rattle.par_search.specs.Shares.{records_in}
use Rattle.par_search.specs.declared.batch.Fetched.{Fetched}
use Rattle.par_search.specs.declared.pieces.TheConstants.{MOST_WORKERS}
use Rattle.par_search.specs.declared.worker.TheConstants.{MOST_RECORDS}

-- no fetch failed, and a page follows
abbrev pub GoesOn : Fetched → Type 0
GoesOn f = (f.fault ≡ None) × (f.from ≢ None)

-- the pages of two fetches, the second after the first, as one
pub record AreBoth (first next both : Fetched) : Type 0 where
  pub count : both.count ≡ first.count + next.count
  pub tried : both.tried ≡ first.tried + next.tried
  pub from : both.from ≡ next.from
  pub fault : both.fault ≡ next.fault

-- each worker has room for two equal shares of all n records of the pages, and there is room for their hits after those
-- that were found
pub record CanMatch (pattern : PatternTerm) (pages : List PageTerm) (n : ℕ) (workers : List WorkerTerm)
    (found : List ℕ) (capacity : ℕ) : Type 0 where
  pub total : n ≡ length (records_in pages)
  pub some : 1 ≤ length workers
  pub few : length workers ≤ MOST_WORKERS
  pub share : All (λ w. 2 * div_ceil n (length workers) ≤ w.share) workers
  pub hits : length found + n ≤ capacity
  pub sound : IsSoundPattern pattern

-- each worker has room for two equal shares of the records of `pages` pages, and there is room for all their hits
pub record CanSearch (pattern : PatternTerm) (pages : ℕ) (workers : List WorkerTerm) (capacity : ℕ) : Type 0 where
  pub some : 1 ≤ length workers
  pub few : length workers ≤ MOST_WORKERS
  pub share : All (λ w. 2 * div_ceil (pages * MOST_RECORDS) (length workers) ≤ w.share) workers
  pub hits : pages * MOST_RECORDS ≤ capacity
  pub sound : IsSoundPattern pattern

-- the hits of the records of pages come after those that were there, and the room is as before
pub record HasMatched (pattern : PatternTerm) (pages : List PageTerm) (old new : List WorkerTerm)
    (found found' : List ℕ) (room room' : ℕ) : Type 0 where
  pub matched : (before : List Found) → AreMatched pattern before found
      → AreMatched pattern (before ++ founds (records_in pages)) found'
  pub workers : HaveSameRoom old new
  pub capacity : room' ≡ room
