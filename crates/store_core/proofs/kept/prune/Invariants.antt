use Rattle.std.proofs.Common.{◌≡◌, ◌<◌, ◌≤◌, All, filter, length}
use Rattle.record_versions.specs.Entries.{entries}
use Rattle.screen_index.specs.Pairs.{Rises, is_apart, rank}
use Rattle.store_core.specs.Kept.{AreIndexed}
use Rattle.store_core.proofs.Dead.{Pruning}
use Rattle.store_core.proofs.kept.prune.Given as goal

abbrev pub invariant-loop-id : goal.invariant-loop-id
invariant-loop-id l = record {
  pruning : Pruning l.live l.from l.fn.chains l.chains;
  rises : Rises l.gone.items;
  last : All (λ p. rank p.0 p.1 ≤ rank l.from.0 l.from.1) l.gone.items;
  fits : l.from.1 < 4294967296;
  indexed : AreIndexed l.chains (filter (is_apart l.gone.items) l.index.entries);
  reserved : l.index.reserved ≡ l.fn.index.reserved;
}

abbrev pub decreases-loop-id : goal.decreases-loop-id
decreases-loop-id l = length (entries l.chains)
