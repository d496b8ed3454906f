use Rattle.std.proofs.Common.{◌+◌, ◌++◌, ◌∙◌, ap, arith, drop, length-append, None, refl, Some, sym}
use Rattle.std.proofs.lemmas.List.{append-nil, drop_all}
use Rattle.store_core.specs.Records.{PageTerm}
use Rattle.store_core.specs.Waiting.{present, values}
use Rattle.store_core.proofs.Waits.{begun, first-of, has-room, next-is, put}
use Rattle.store_core.proofs.waiting.Waiting.share.Goals as goal
use Rattle.store_core.proofs.waiting.Waiting.share.Goals.{in-Some+in_ok-try_clone, in_default}

pub loop-waiting-init : goal.loop-waiting-init
loop-waiting-init c = record {
  left = ap (λ l. values c.args.page.now.records ++ values l)
      (ap present c.deref-waiting-items.ensures.0 ∙ c.self.view_is)
      ∙ begun c.args.page.now.records c.args.self.now;
  room = refl;
}

pub returns-in_err-try_clone-clause-first : goal.returns-in_err-try_clone-clause-first
returns-in_err-try_clone-clause-first c =
    first-of c.loop-waiting.page.records _ (c.args.page.now.records ++ c.args.self.now) c.loop-waiting.invariant.left

pub returns-in_err-try_clone-clause-room : goal.returns-in_err-try_clone-clause-room
returns-in_err-try_clone-clause-room c = c.loop-waiting.invariant.room

pub push-requires : goal.push-requires
push-requires c =
    let next = next-is c.deref-waiting-items.result.now c.loop-waiting.waiting-index c.waiting-item.result
    (Some c.in-Some.record) c.loop-waiting-test.true (sym c.waiting-item.is ∙ c.in-Some.is) in
    let long = length-append c.args.page.now.records c.args.self.now in
    has-room c.loop-waiting.page.records _ (c.args.page.now.records ++ c.args.self.now) _ c.in-Some.record.now
    c.loop-waiting.page.room c.loop-waiting.invariant.left next
    (omega (arith, long, c.requires, c.loop-waiting.invariant.room))

pub loop-waiting-preserved : goal.loop-waiting-preserved
loop-waiting-preserved c =
    elim c.match-waiting.branch [
      | in-Some+in_ok-try_clone w ↦
          let next = next-is c.deref-waiting-items.result.now c.loop-waiting.waiting-index c.waiting-item.result
          (Some w.in-Some.record) c.loop-waiting-test.true (sym c.waiting-item.is ∙ w.in-Some.is) in
          let more = ap (λ (p : PageTerm). p.records) w.page-is ∙ w.push.ensures.records in
          record {
            left = put c.loop-waiting.page.records c.match-waiting.page.records _ _ w.in_ok-try_clone.field-0
                w.in-Some.record.now more w.in_ok-try_clone.ensures next
                ∙ c.loop-waiting.invariant.left;
            room = ap (λ (p : PageTerm). p.room) w.page-is ∙ (w.push.ensures.room ∙ c.loop-waiting.invariant.room);
          }
      | in_default w ↦
          let next = next-is c.deref-waiting-items.result.now c.loop-waiting.waiting-index c.waiting-item.result None
          c.loop-waiting-test.true (sym c.waiting-item.is ∙ w.in_default.is) in
          record {
            left = ap (λ (p : PageTerm). values p.records ++ values (present (drop (c.loop-waiting.waiting-index + 1)
                c.deref-waiting-items.result.now))) w.page-is
                ∙ (sym (ap (λ l. values c.loop-waiting.page.records ++ values l) next) ∙ c.loop-waiting.invariant.left);
            room = ap (λ (p : PageTerm). p.room) w.page-is ∙ c.loop-waiting.invariant.room;
          }
    ]

pub returns-clause-ok : goal.returns-clause-ok
returns-clause-ok c =
    let none = drop_all c.loop-waiting.waiting-index c.deref-waiting-items.result.now c.loop-waiting-test.false in
    sym (ap (λ l. values c.loop-waiting.page.records ++ values (present l)) none
    ∙ append-nil (values c.loop-waiting.page.records))
    ∙ c.loop-waiting.invariant.left

pub returns-clause-first : goal.returns-clause-first
returns-clause-first c =
    first-of c.loop-waiting.page.records _ (c.args.page.now.records ++ c.args.self.now) c.loop-waiting.invariant.left

pub returns-clause-room : goal.returns-clause-room
returns-clause-room c = c.loop-waiting.invariant.room
