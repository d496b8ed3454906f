use Rattle.std.proofs.Common.{◌≡◌, take}
use Rattle.commit_log.specs.Base.{entries_of}
use Rattle.store_disk.specs.Replays.{HasBased}
use Rattle.store_disk.proofs.replay.based.Given as goal

abbrev pub invariant-loop-one : goal.invariant-loop-one
invariant-loop-one l =
    (l.memory.version ≡ l.version) × HasBased l.memory l.version (entries_of (take l.one-index l.base))
