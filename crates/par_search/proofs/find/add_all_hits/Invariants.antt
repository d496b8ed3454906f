use Rattle.std.proofs.Common.{◌≡◌, ◌++◌, take, vec_capacity}
use Rattle.par_search.specs.Shares.{hits_in}
use Rattle.par_search.proofs.find.add_all_hits.Given as goal

abbrev pub invariant-loop-worker : goal.invariant-loop-worker
invariant-loop-worker l = record {
  hits : l.hits.items ≡ l.fn.hits.items ++ hits_in (take l.worker-index l.workers);
  capacity : vec_capacity l.hits ≡ vec_capacity l.fn.hits;
}
