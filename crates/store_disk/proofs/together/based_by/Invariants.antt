use Rattle.std.proofs.Common.{◌≡◌, drop, length, take}
use Rattle.std.specs.Vec.Iter.{into_iter_items, into_iter_len}
use Rattle.commit_log.specs.Base.{entries_of}
use Rattle.store_disk.specs.Replays.{HasBased}
use Rattle.store_disk.specs.Texts.{AreRecords}
use Rattle.store_disk.proofs.together.based_by.Given as goal

abbrev pub invariant-loop-one : goal.invariant-loop-one
invariant-loop-one g l = record {
  version : l.memory.version ≡ l.version;
  based : HasBased l.memory l.version (entries_of (take l.one-index l.base));
  left : AreRecords (drop l.one-index l.base) (into_iter_items l.records);
  len : into_iter_len l.records ≡ length (into_iter_items l.records);
}
