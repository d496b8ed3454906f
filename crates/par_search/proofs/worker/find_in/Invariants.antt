use Rattle.std.proofs.Common.{◌≡◌, ◌+◌, ◌++◌, ◌≤◌, length, List, take, vec_capacity}
use Rattle.matcher.specs.Prepared.{IsPreparedFor}
use Rattle.smarts_parse.specs.Pattern.{pattern_of}
use Rattle.store_machine.specs.Answers.{AreMatched}
use Rattle.store_machine.specs.declared.machine.Found.{Found}
use Rattle.store_core.specs.Records.{founds}
use Rattle.par_search.proofs.worker.find_in.Given as goal

abbrev pub invariant-loop-record : goal.invariant-loop-record
invariant-loop-record l = record {
  prepared : IsPreparedFor (pattern_of l.pattern) l.scratch;
  matched : (before : List Found) → AreMatched (pattern_of l.pattern) before l.fn.hits.items
      → AreMatched (pattern_of l.pattern) (before ++ founds (take l.record-index l.records)) l.hits.items;
  count : length l.hits.items ≤ length l.fn.hits.items + l.record-index;
  capacity : vec_capacity l.hits ≡ vec_capacity l.fn.hits;
}
