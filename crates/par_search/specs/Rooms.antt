-- The room of a search. For private clauses alone.
use Rattle.std.specs.Prelude.{◌≡◌, ◌≤◌, ◌*◌, [], All, length, true, vec_capacity}
use Rattle.std.specs.Int.{div_ceil}
use Rattle.par_search.specs.declared.batch.TheConstants.{MOST_PAGES}
use Rattle.par_search.specs.declared.pieces.TheConstants.{MOST_WORKERS}
use Rattle.par_search.specs.declared.room.PageHits.{PageHits}
use Rattle.par_search.specs.declared.room.Room.{Room}
use Rattle.par_search.specs.declared.worker.TheConstants.{MOST_RECORDS}

-- room for pages of its size, alone and in a batch. Each of its 1 to 16 workers has room for an equal piece of a page,
-- and for two equal shares of the records of a batch
pub record IsRoom (room : Room) : Type 0 where
  pub some : 1 ≤ room.size
  pub few : room.size ≤ MOST_RECORDS
  pub some_workers : 1 ≤ length room.workers.items
  pub few_workers : length room.workers.items ≤ MOST_WORKERS
  pub few_pages : length room.batch.items ≤ MOST_PAGES
  pub page : room.size ≤ room.page.room
  pub batch : All (λ p. room.size ≤ p.room) room.batch.items
  pub hits : room.size ≤ vec_capacity room.hits
  pub batch_hits : length room.batch.items * MOST_RECORDS ≤ vec_capacity room.hits
  pub workers : All (λ w. div_ceil room.size (length room.workers.items) ≤ w.room) room.workers.items
  pub shares : All (λ w. 2 * div_ceil (length room.batch.items * MOST_RECORDS) (length room.workers.items) ≤ w.share)
      room.workers.items

-- the room is as before
pub record SameRoom (old new : Room) : Type 0 where
  pub size : new.size ≡ old.size
  pub batch : length new.batch.items ≡ length old.batch.items
  pub room : IsRoom new

-- no records and no hits, after the last page
pub record HasNothing (p : PageHits) : Type 0 where
  pub records : p.records.now ≡ []
  pub hits : p.hits.now ≡ []
  pub tried : p.tried ≡ 0
  pub last : p.last ≡ true
