use Rattle.std.proofs.Common.{arith, sym, subst}
use Rattle.watch_list.specs.Entries.{HasRoom}
use Rattle.watch_list.specs.Notes.{IsNoted}
use Rattle.watch_list.proofs.Rows.{upto-all, upto-here, upto-more}
use Rattle.watch_list.proofs.list.note_each.Goals as goal

pub note-requires-clause-room : goal.note-requires-clause-room
note-requires-clause-room c =
    let l = c.loop-entry in
    let d = c.entry-item.result in
    subst HasRoom (sym (upto-here (IsNoted c.args.version c.args.change.now) l.entry-index c.args.entries.now l.entries
    d l.invariant)) (c.requires.room l.entry-index d c.loop-entry-test.true)

pub loop-entry-preserved : goal.loop-entry-preserved
loop-entry-preserved c =
    let l = c.loop-entry in
    upto-more (IsNoted c.args.version c.args.change.now) l.entry-index c.args.entries.now l.entries c.note.new.self
    c.entry-item.result l.invariant (omega arith) c.note.ensures

pub returns : goal.returns
returns c =
    let l = c.loop-entry in
    upto-all (IsNoted c.args.version c.args.change.now) l.entry-index c.args.entries.now l.entries l.invariant
    (omega arith)
