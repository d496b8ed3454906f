use Rattle.std.proofs.Common.{◌≡◌, ◌++◌, drop}
use Rattle.store_core.specs.Waiting.{present, values}
use Rattle.store_core.proofs.waiting.Waiting.share.Given as goal

abbrev pub invariant-loop-waiting : goal.invariant-loop-waiting
invariant-loop-waiting l = record {
  left : values l.page.records ++ values (present (drop l.waiting-index l.waiting-items))
      ≡ values (l.fn.page.records ++ l.self);
  room : l.page.room ≡ l.fn.page.room;
}
