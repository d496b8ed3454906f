-- A search after a page.
use Rattle.std.specs.Prelude.{◌≡◌, Err, Ok, Result}
use Rattle.std.specs.Borrow.{Fml, MutBor}
use Rattle.std.specs.Io.BufRead.{Rests}
use Rattle.store_machine.specs.Searches.{At, End, Place}
use Rattle.store_core.specs.Records.{founds}
use Rattle.par_search.specs.Rooms.{HasNothing}
use Rattle.par_search.specs.Searches.{SearchTerm, place_after}
use Rattle.par_search.specs.contracts.search.Search.{the_row}
use Rattle.par_search.specs.declared.fault.SearchFault.{SearchFault}
use Rattle.par_search.specs.declared.room.PageHits.{PageHits}

abbrev pub place_behind : Place → PageHits → Place
place_behind (At from) page = place_after from (founds page.records.now) page.last
place_behind End page = End

abbrev pub place_then : Place → Result PageHits SearchFault → Place
place_then place (Ok page) = place_behind place page
place_then place (Err fault) = place

-- the search goes on after the page, and stays at its place after a fault
abbrev pub after : SearchTerm → Result PageHits SearchFault → SearchTerm
after old result = record old { place = place_then old.place result }

-- as `after`, once the page is dropped
abbrev pub Moves : MutBor SearchTerm → Result PageHits SearchFault → Fml
Moves search result = Rests the_row search (λ new. new ≡ after search.now result)

-- after the last page there is nothing
abbrev pub IsEnded : Result PageHits SearchFault → Type 0
IsEnded (Ok page) = HasNothing page
IsEnded (Err fault) = ⊥
