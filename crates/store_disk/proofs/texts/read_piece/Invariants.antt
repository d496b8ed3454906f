use Rattle.std.proofs.Common.{take}
use Rattle.store_disk.specs.Texts.{AreChanges}
use Rattle.store_disk.proofs.texts.read_piece.Given as goal

abbrev pub invariant-loop-commit : goal.invariant-loop-commit
invariant-loop-commit l = AreChanges (take l.commit-index l.commits) l.changes.items
