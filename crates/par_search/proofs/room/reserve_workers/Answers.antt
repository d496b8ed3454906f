use Rattle.std.proofs.Common.{◌+◌, ◌≤◌, ◌∙◌, All, ap, subst, sym}
use Rattle.std.proofs.lemmas.List.Elements.{All-push}
use Rattle.par_search.specs.Flags.{WorkerTerm}
use Rattle.par_search.proofs.room.reserve_workers.Goals as goal

pub loop-place-preserved : goal.loop-place-preserved
loop-place-preserved c =
    let worker = c.in_ok-reserve_for.field-0 in
    let has_room = λ (w : WorkerTerm). c.args.piece ≤ w.room in
    let has_share = λ (w : WorkerTerm). c.args.share ≤ w.share in
    let inv = c.loop-place.invariant in
    record {
      number = c.in_ok-push.ensures.len ∙ ap (λ n. n + 1) inv.number;
      room = subst (All has_room) (sym c.in_ok-push.ensures.items)
          (All-push has_room c.loop-place.workers.items worker inv.room c.in_ok-reserve_for.ensures.room);
      share = subst (All has_share) (sym c.in_ok-push.ensures.items)
          (All-push has_share c.loop-place.workers.items worker inv.share c.in_ok-reserve_for.ensures.share);
    }
