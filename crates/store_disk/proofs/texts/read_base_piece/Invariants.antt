use Rattle.std.proofs.Common.{take}
use Rattle.store_disk.specs.Texts.{AreRecords}
use Rattle.store_disk.proofs.texts.read_base_piece.Given as goal

abbrev pub invariant-loop-entry : goal.invariant-loop-entry
invariant-loop-entry l = AreRecords (take l.entry-index l.entries) l.records.items
