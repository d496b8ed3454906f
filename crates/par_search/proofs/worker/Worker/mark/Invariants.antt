use Rattle.std.proofs.Common.{◌≡◌, length, take, vec_capacity}
use Rattle.smarts_parse.specs.Pattern.{pattern_of}
use Rattle.matcher.specs.Prepared.{IsPreparedFor}
use Rattle.par_search.specs.Flags.{AreFlags}
use Rattle.par_search.proofs.worker.Worker.mark.Given as goal

abbrev pub invariant-loop-record : goal.invariant-loop-record
invariant-loop-record l = record {
  prepared : IsPreparedFor (pattern_of l.pattern) l.self-inside.scratch;
  flags : AreFlags (pattern_of l.pattern) (take l.record-index l.piece) l.self-inside.flags.items;
  count : length l.self-inside.flags.items ≡ l.record-index;
  room : vec_capacity l.self-inside.flags ≡ l.fn.self.room;
  share : vec_capacity l.self-inside.hits ≡ l.fn.self.share;
}
