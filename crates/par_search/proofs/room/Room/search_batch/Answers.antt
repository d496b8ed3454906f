use Rattle.std.proofs.Common.{◌≡◌, ◌∙◌, ap, arith, length, refl}
use Rattle.std.proofs.lemmas.List.{with_items_is}
use Rattle.par_search.specs.Flags.{rooms, shares}
use Rattle.par_search.proofs.Rooming.{kept-room, page_rooms}
use Rattle.par_search.proofs.room.Room.search_batch.Goals as goal

pub returns-clause-room : goal.returns-clause-room
returns-clause-room g c =
    let self = c.args.self.now in
    let pages = c.search.new.pages in
    let workers = c.search.new.workers in
    let number : length pages ≡ self.batch.len = omega (arith, c.search.auto.pages, c.deref_mut.ensures.len) in
    let len : length workers ≡ self.workers.len = omega (arith, c.search.auto.workers, c.deref_mut-2.ensures.len) in
    let is = with_items_is self.workers workers len in
    kept-room self _ c.requires.room refl refl
    (ap page_rooms (with_items_is self.batch pages number) ∙ (c.search.ensures.fetched.room
    ∙ ap page_rooms c.deref_mut.ensures.value))
    c.search.ensures.matched.capacity (
      ap rooms is ∙ (c.search.ensures.matched.workers.0 ∙ ap rooms c.deref_mut-2.ensures.value),
      ap shares is ∙ (c.search.ensures.matched.workers.1 ∙ ap shares c.deref_mut-2.ensures.value),
    )
