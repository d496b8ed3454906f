use Rattle.std.proofs.Common.{◌≡◌, ◌-◌, length, List, Option}
use Rattle.std.specs.Vec.Iter.{into_iter_items, into_iter_len}
use Rattle.io_edge.specs.Lines.{TextLine}
use Rattle.session_run.specs.Standings.{watched_all}
use Rattle.session_run.specs.Taken.{AreTaken}
use Rattle.session_run.proofs.Registered.{IsAt}
use Rattle.session_run.proofs.sd.register_sd.Given as goal

abbrev pub invariant-loop-place : goal.invariant-loop-place
invariant-loop-place g l = record {
  goes : (records : List (Option (List TextLine))) → length records ≡ l.fn.count → AreTaken records l.fn.texts
      → IsAt g.S.Service l.fn.service l.service l.fn.first records l.fn.texts (watched_all l.fn.watches.watches)
      (watched_all l.watches.watches) l.fn.out.items l.out.items l.place
      (into_iter_items l.answers);
  len : into_iter_len l.answers ≡ length (into_iter_items l.answers);
}

abbrev pub decreases-loop-place : goal.decreases-loop-place
decreases-loop-place g l = l.fn.count - l.place
