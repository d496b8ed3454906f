use Rattle.std.proofs.Common.{◌≡◌, ◌+◌, ◌*◌, ◌≤◌, drop, length, take, vec_capacity}
use Rattle.smarts_parse.specs.Pattern.{PatternTerm}
use Rattle.store_machine.specs.Answers.{AreMatched}
use Rattle.store_core.specs.Records.{founds}
use Rattle.par_search.specs.Flags.{AreFlagged}
use Rattle.par_search.proofs.pieces.list_hits.Given as goal

abbrev pub invariant-loop-worker : goal.invariant-loop-worker
invariant-loop-worker l = record {
  rest : l.rest ≡ drop (l.worker-index * l.size) l.records;
  matched : (p : PatternTerm) → AreFlagged p l.records l.workers
      → AreMatched p (founds (take (l.worker-index * l.size) l.records)) l.hits.items;
  count : length l.hits.items + length l.rest ≤ length l.records;
  capacity : vec_capacity l.hits ≡ vec_capacity l.fn.hits;
}
