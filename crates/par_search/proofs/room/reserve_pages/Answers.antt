use Rattle.std.proofs.Common.{◌+◌, ◌≤◌, ◌∙◌, All, ap, subst, sym}
use Rattle.std.proofs.lemmas.List.Elements.{All-push}
use Rattle.store_core.specs.Records.{PageTerm}
use Rattle.par_search.proofs.room.reserve_pages.Goals as goal

pub loop-place-preserved : goal.loop-place-preserved
loop-place-preserved c =
    let page = c.in_ok-reserve.field-0 in
    let has_room = λ (p : PageTerm). c.args.size ≤ p.room in
    let inv = c.loop-place.invariant in
    record {
      number = c.in_ok-push.ensures.len ∙ ap (λ n. n + 1) inv.number;
      room = subst (All has_room) (sym c.in_ok-push.ensures.items)
          (All-push has_room c.loop-place.pages.items page inv.room c.in_ok-reserve.ensures.room);
    }
