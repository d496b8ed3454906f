use Rattle.std.proofs.Common.{◌≡◌, ◌+◌, ◌++◌, ◌≤◌, drop, length, List, take, vec_capacity}
use Rattle.matcher.specs.Prepared.{IsPreparedFor}
use Rattle.smarts_parse.specs.Pattern.{pattern_of}
use Rattle.store_machine.specs.Answers.{AreMatched}
use Rattle.store_core.specs.Records.{Shared, founds}
use Rattle.par_search.specs.Shares.{records_in}
use Rattle.par_search.proofs.worker.Worker.find.Given as goal

abbrev pub invariant-loop-page : goal.invariant-loop-page
invariant-loop-page l = record {
  prepared : IsPreparedFor (pattern_of l.pattern) l.self-inside.scratch;
  found : (taken : List Shared) × AreMatched (pattern_of l.pattern) (founds taken) l.self-inside.hits.items
      × (taken ++ take l.left (drop l.skip (records_in (drop l.page-index l.pages)))
      ≡ take l.count (drop l.start (records_in l.pages)));
  few : length l.self-inside.hits.items + l.left ≤ l.count;
  room : vec_capacity l.self-inside.flags ≡ l.fn.self.room;
  share : vec_capacity l.self-inside.hits ≡ l.fn.self.share;
}
