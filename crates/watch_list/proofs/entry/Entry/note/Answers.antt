use Rattle.std.proofs.Common.{◌≡◌, ◌+◌, ap, arith, refl, subst}
use Rattle.watch_list.specs.Entries.{EntryTerm}
use Rattle.watch_list.specs.Notes.{IsNoted}
use Rattle.watch_list.specs.Watches.{Watch}
use Rattle.watch_list.proofs.Noted.{brought}
use Rattle.watch_list.proofs.entry.Entry.note.Goals as goal

pub returns : goal.returns
returns c =
    let inside = c.self.inside in
    let old : Watch = record {
      name = inside.name.items;
      pattern = inside.pattern;
      version = inside.version;
      hits = inside.hits.items;
      fills = inside.fills;
    } in
    let new : Watch = record old { version = c.args.version; hits = c.update.new.hits.items } in
    let next : inside.version + 1 ≡ c.args.version = omega arith in
    subst (λ w. IsNoted c.args.version c.args.change.now w new) (ap (λ (e : EntryTerm). e.watch) c.self.view_is)
    (brought c.one_structure.ensures c.snapshots_stay.ensures c.commits_change.ensures c.args.version c.args.change.now
    old new c.update.ensures.sound next refl refl refl refl c.update.ensures.list)
