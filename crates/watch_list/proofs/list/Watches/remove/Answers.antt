use Rattle.std.proofs.Common.{◌≡◌, ◌&&◌, ◌∙◌, ap, filter, is_some, subst, sym, true}
use Rattle.watch_list.specs.Entries.{EntryTerm, all_have_room, watches_in}
use Rattle.watch_list.specs.Watches.{AreWatches, WatchesTerm, is_other}
use Rattle.watch_list.proofs.Kept.{map-filter, one-taken}
use Rattle.watch_list.proofs.Named.{is-watched}
use Rattle.watch_list.proofs.Rows.{both, both-left, both-right, room-filtered}
use Rattle.watch_list.proofs.list.Watches.remove.Goals as goal

pub invariant_of-self : goal.invariant_of-self
invariant_of-self c =
    let es = c.self.inside.entries.items in
    let other = is_other c.args.name.now in
    let taken = ap watches_in c.take_out.ensures ∙ map-filter (λ (e : EntryTerm). e.watch) other es in
    subst AreWatches (sym taken) (one-taken c.args.name.now (watches_in es) c.self.invariant)

pub returns : goal.returns
returns c =
    let es = c.self.inside.entries.items in
    let name = c.args.name.now in
    let taken = ap watches_in c.take_out.ensures ∙ map-filter (λ (e : EntryTerm). e.watch) (is_other name) es in
    let are = ap (λ (w : WatchesTerm). w.watches) c.self.view_is in
    record {
      watched = c.is_some-watched.ensures ∙ is-watched name es c.deref.result.now c.args.self.now.watches
          c.entry_of.result c.deref.ensures.value are c.entry_of.ensures;
      watches = taken ∙ ap (filter (is_other name)) are;
      reserved = λ ready.
          let was : is_some c.self.inside.scratch && all_have_room es ≡ true =
          ap (λ (w : WatchesTerm). w.reserved) c.self.view_is ∙ ready in
          both _ _ (both-left _ _ was) (ap all_have_room c.take_out.ensures
          ∙ room-filtered (λ (e : EntryTerm). is_other name e.watch) es (both-right _ _ was));
    }
