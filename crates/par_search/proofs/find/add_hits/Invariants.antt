use Rattle.std.proofs.Common.{◌≡◌, ◌++◌, take, vec_capacity}
use Rattle.par_search.proofs.find.add_hits.Given as goal

abbrev pub invariant-loop-id : goal.invariant-loop-id
invariant-loop-id l = record {
  hits : l.hits.items ≡ l.fn.hits.items ++ take l.id-index l.found;
  capacity : vec_capacity l.hits ≡ vec_capacity l.fn.hits;
}
