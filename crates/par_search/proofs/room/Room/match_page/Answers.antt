use Rattle.std.proofs.Common.{◌≡◌, ◌≤◌, ◌∙◌, ap, arith, length, List, refl}
use Rattle.std.proofs.lemmas.List.{with_items_is}
use Rattle.store_core.specs.Records.{Shared}
use Rattle.par_search.specs.Flags.{rooms, shares}
use Rattle.par_search.proofs.Rooming.{kept-room, parts-fit}
use Rattle.par_search.proofs.room.Room.match_page.Goals as goal

pub match_pieces-requires-clause-room : goal.match_pieces-requires-clause-room
match_pieces-requires-clause-room g c _ _ =
    let self = c.args.self.now in
    let few : length c.records.result.now ≤ self.size =
    omega (arith, c.requires.few, ap (λ (l : List Shared). length l) c.records.ensures) in
    parts-fit (λ w. w.room) (length c.records.result.now) self.size self.workers.items c.deref_mut.result.now
    c.deref_mut.ensures.value c.requires.room.some_workers few c.requires.room.workers

pub returns-clause-room : goal.returns-clause-room
returns-clause-room g c =
    let old = c.args.self.now.workers in
    let new = c.match_pieces.new.workers in
    let len : length new ≡ old.len = omega (arith, c.match_pieces.auto.workers, c.deref_mut.ensures.len) in
    let is = with_items_is old new len in
    kept-room c.args.self.now _ c.requires.room refl refl refl c.list_hits.ensures.capacity (
      ap rooms is ∙ (c.match_pieces.ensures.same.0 ∙ ap rooms c.deref_mut.ensures.value),
      ap shares is ∙ (c.match_pieces.ensures.same.1 ∙ ap shares c.deref_mut.ensures.value),
    )
