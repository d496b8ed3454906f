use Rattle.watch_list.specs.Notes.{IsNoted}
use Rattle.watch_list.proofs.Rows.{Upto}
use Rattle.watch_list.proofs.list.note_each.Given as goal

abbrev pub invariant-loop-entry : goal.invariant-loop-entry
invariant-loop-entry l = Upto (IsNoted l.version l.change) l.entry-index l.initial.entries l.entries
