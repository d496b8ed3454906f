use Rattle.std.proofs.Common.{drop, length, List, subst, sym}
use Rattle.std.proofs.lemmas.List.Elements.{length_all_zip}
use Rattle.watch_list.specs.Entries.{EntryTerm, watches_in}
use Rattle.watch_list.specs.Notes.{IsNoted}
use Rattle.watch_list.specs.Watches.{AreWatches}
use Rattle.watch_list.proofs.Kept.{noted-names, same-names}
use Rattle.watch_list.proofs.Rows.{written}
use Rattle.watch_list.proofs.list.Watches.note.Goals as goal

pub invariant_of-self : goal.invariant_of-self
invariant_of-self c =
    let old = c.deref_mut.result.now in
    let new = c.note_each.new.entries in
    let are = λ (es : List EntryTerm). AreWatches (watches_in es) in
    let change = c.args.change.now in
    subst are (sym (written c.self.inside.entries.len old new (drop (length new) c.self.inside.entries.items)
    (sym (length_all_zip (IsNoted c.args.version change) (watches_in old) (watches_in new) c.note_each.ensures))
    c.deref_mut.ensures.len))
    (same-names (watches_in old) (watches_in new)
    (noted-names c.args.version change (watches_in old) (watches_in new) c.note_each.ensures)
    (subst are (sym c.deref_mut.ensures.value) c.self.invariant))
