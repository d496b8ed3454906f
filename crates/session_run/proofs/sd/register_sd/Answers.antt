use Rattle.std.proofs.Common.{◌≡◌, ◌∙◌, ◌+◌, ap, arith, length, length-append, List, option_to_list, Result, subst, suc, sym, ℕ}
use Rattle.std.specs.Vec.Iter.{into_iter_items}
use Rattle.mol_finish.specs.declared.fault.TextFault.{TextFault}
use Rattle.store_core.specs.Records.{Shared}
use Rattle.session_run.specs.Standings.{watched_all}
use Rattle.session_run.specs.Taken.{AreRead}
use Rattle.session_run.proofs.Joined.{uses-none}
use Rattle.session_run.proofs.Registered.{IsAt, at_end, at_more, at_none, at_stopped, each_done, none_done, popped}
use Rattle.session_run.proofs.sd.register_sd.Goals as goal

pub returns-then-is_err : goal.returns-then-is_err
returns-then-is_err g c = λ records e taken size cursors.
    each_done c.args.first records size cursors
    (none_done c.args.first records (uses-none g.met.S.Service.stays c.args.service.now))

pub loop-place-init : goal.loop-place-init
loop-place-init g c =
    let items = c.into_iter-answers.ensures.rest in
    let read : AreRead c.args.first c.args.texts.now.texts.items (into_iter_items c.into_iter-answers.result) =
    subst (λ (l : List (Result Shared TextFault)). AreRead c.args.first c.args.texts.now.texts.items l) (sym items)
    c.read_all-made.ensures in
    record {
      goes = λ records e taken.
          subst (λ (o : List ℕ). IsAt g.S.Service c.args.service.now c.args.service.now c.args.first records
          c.args.texts.now (watched_all c.args.watches.now.watches) (watched_all c.args.watches.now.watches)
          c.args.out.now.items o 0 (into_iter_items c.into_iter-answers.result)) (sym c.reserve.ensures.items)
          (at_none g.S.Service c.args.service.now c.args.first records c.args.texts.now
          (watched_all c.args.watches.now.watches) c.args.out.now.items
          (into_iter_items c.into_iter-answers.result) (uses-none g.met.S.Service.stays c.args.service.now) taken read);
      len = c.into_iter-answers.ensures.len
          ∙ (c.read_all-made.result.ok.0 ∙ ap (λ (l : List (Result Shared TextFault)). length l) (sym items));
    }

pub loop-place-preserved : goal.loop-place-preserved
loop-place-preserved g c =
    let answers = into_iter_items c.loop-place.answers in
    let others = into_iter_items c.next.new.self in
    let items = c.next.ensures.items in
    let p = popped answers others c.next.result items
    (λ lt. c.next.ensures.variant.1 (omega (arith, lt, c.loop-place.invariant.len))) in
    let step : suc c.loop-place.place ≡ c.loop-place.place + 1 = omega arith in
    record {
      goes = λ records e taken.
          subst (λ (n : ℕ). IsAt g.S.Service c.args.service.now c.register_one.new.service c.args.first records
          c.args.texts.now (watched_all c.args.watches.now.watches) (watched_all c.register_one.new.watches.watches)
          c.args.out.now.items c.register_one.new.out.items n others) step
          (at_more {of = g.S.Service} c.args.first records c.args.texts.now g.met.S.Service.joins
          g.met.S.Service.lands g.met.S.Service.same c.args.service.now c.loop-place.service
          c.register_one.new.service c.args.out.now.items c.loop-place.out.items c.register_one.new.out.items
          c.loop-place.place answers others c.kept_at-kept.result c.next.result c.kept_at-kept.ensures p.0 p.1
          (c.loop-place.invariant.goes records e taken) (omega (arith, e, c.loop-place-test.true)) c.in-Ok.ensures);
      len = omega (
        arith,
        c.next.ensures.len,
        c.loop-place.invariant.len,
        ap (λ (l : List (Result Shared TextFault)). length l) items,
        length-append (option_to_list c.next.result) others,
      );
    }

pub returns-in-Err : goal.returns-in-Err
returns-in-Err g c = λ records e taken size cursors.
    let answers = into_iter_items c.loop-place.answers in
    let others = into_iter_items c.next.new.self in
    let p = popped answers others c.next.result c.next.ensures.items
    (λ lt. c.next.ensures.variant.1 (omega (arith, lt, c.loop-place.invariant.len))) in
    each_done c.args.first records size cursors
    (at_stopped c.args.first records c.args.texts.now g.met.S.Service.joins g.met.S.Service.lands
    g.met.S.Service.same c.args.service.now c.loop-place.service c.register_one.new.service
    c.args.out.now.items c.loop-place.out.items c.register_one.new.out.items c.loop-place.place answers others
    c.kept_at-kept.result c.next.result c.kept_at-kept.ensures p.0 p.1 c.in-Err.stop
    (c.loop-place.invariant.goes records e taken) (omega (arith, e, c.loop-place-test.true)) c.in-Err.ensures)

pub returns : goal.returns
returns g c = λ records e taken size cursors.
    each_done c.args.first records size cursors
    (at_end c.args.first records c.args.texts.now c.loop-place.place (into_iter_items c.loop-place.answers)
    (c.loop-place.invariant.goes records e taken) (omega (arith, e, c.loop-place-test.false)))
