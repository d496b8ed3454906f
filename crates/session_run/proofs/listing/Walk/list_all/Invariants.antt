use Rattle.std.proofs.Common.{true}
use Rattle.session_run.specs.Made.{Uses}
use Rattle.session_run.specs.Walks.{Listing}
use Rattle.session_run.proofs.listing.Walk.list_all.Given as goal

abbrev pub invariant-loop : goal.invariant-loop
invariant-loop g l = Listing (Uses g.S.Service l.fn.service l.service) l.fn.self.search l.self.search l.self.tried
    l.self.hits l.fn.out.items true l.out.items
