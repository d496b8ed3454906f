use Rattle.std.proofs.Common.{◌≡◌}
use Rattle.par_search.specs.Searches.{place_of}
use Rattle.par_search.proofs.Fetching.{Fetching}
use Rattle.par_search.proofs.Rooming.{page_rooms}
use Rattle.par_search.proofs.batch.fetch_pages.Given as goal

abbrev pub invariant-loop-page : goal.invariant-loop-page
invariant-loop-page g l = record {
  fetching : Fetching g.S.Service l.fn.service l.service l.pin.slot l.size l.want (place_of l.fn.from) l.pages l.page-index
      l.fetched;
  room : page_rooms l.pages ≡ page_rooms l.fn.pages;
}
