use Rattle.std.specs.List.{AllWithin}
use Rattle.screen_index.specs.Pairs.{Notes, column_of}
use Rattle.screen_index.proofs.block.note_all.Given as goal

abbrev pub invariant-loop-entry : goal.invariant-loop-entry
invariant-loop-entry g l = AllWithin (λ x. Notes l.rows x.print (column_of x)) l.entries 0 l.entry-index
