use Rattle.std.proofs.Common.{◌≡◌, ◌+◌, ◌++◌, ◌≤◌, length, List, take, vec_capacity}
use Rattle.smarts_parse.specs.Pattern.{PatternTerm}
use Rattle.store_machine.specs.Answers.{AreMatched}
use Rattle.store_machine.specs.declared.machine.Found.{Found}
use Rattle.store_core.specs.Records.{founds}
use Rattle.par_search.specs.Flags.{AreFlags}
use Rattle.par_search.proofs.pieces.list_piece.Given as goal

abbrev pub invariant-loop-place : goal.invariant-loop-place
invariant-loop-place l = record {
  matched : (p : PatternTerm) (before : List Found) → AreFlags p l.piece l.flags
      → AreMatched p before l.fn.hits.items → AreMatched p (before ++ founds (take l.place l.piece)) l.hits.items;
  count : length l.hits.items ≤ length l.fn.hits.items + l.place;
  capacity : vec_capacity l.hits ≡ vec_capacity l.fn.hits;
}
