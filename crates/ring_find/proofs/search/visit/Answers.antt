use Rattle.std.proofs.Common.{◌≡◌, ◌<◌, ◌≤◌, ◌+◌, length, slice_index, arith}
use Rattle.std.proofs.lemmas.List.{get_or_read}
use Rattle.chem_core.proofs.Steps.{step_within}
use Rattle.ring_find.proofs.Visits.{queued_within, mark_low, IsVisit, visit_push, visit_done}
use Rattle.ring_find.proofs.search.visit.Goals as goal

pub bounds-marks-from : goal.bounds-marks-from
bounds-marks-from c =
    rw (c.from.ensures, c.index-at.ensures) (queued_within _ _ _ _ _ _ c.args.next _ c.requires.search c.requires.next)

pub overflow_add-mark : goal.overflow_add-mark
overflow_add-mark c =
    let at : c.index-at.result.now ≡ slice_index c.args.queue.now.items c.args.next =
    get_or_read _ _ _ c.requires.next c.index-at.ensures 0 in
    let low : slice_index c.args.marks.now c.from.result ≤ c.args.graph.now.atoms =
    rw (c.from.ensures, at) (mark_low _ _ _ _ _ _ c.args.next c.requires.search c.requires.next) in
    omega arith

pub steps_from-steps-requires : goal.steps_from-steps-requires
steps_from-steps-requires c =
    let low : c.index-at.result.now < length c.args.marks.now =
    rw c.index-at.ensures (queued_within _ _ _ _ _ _ c.args.next _ c.requires.search c.requires.next) in
    omega arith

pub bounds-kept-from : goal.bounds-kept-from
bounds-kept-from c =
    rw (c.from-else-step-bond.ensures, c.requires.kept)
    (step_within _ _ _ _ _ _ c.steps_from-steps.ensures.valid c.steps_from-steps.ensures.steps c.loop-step-test.true).0

pub bounds-marks-from-else-not-kept-from : goal.bounds-marks-from-else-not-kept-from
bounds-marks-from-else-not-kept-from c =
    rw (c.from-else-not-kept-from.ensures, c.loop-step.invariant.search.size)
    (step_within _ _ _ _ _ _ c.steps_from-steps.ensures.valid c.steps_from-steps.ensures.steps c.loop-step-test.true).1

pub bounds-marks-from-in-loop-step : goal.bounds-marks-from-in-loop-step
bounds-marks-from-in-loop-step c =
    rw (c.from-in-loop-step.ensures, c.loop-step.invariant.search.size)
    (step_within _ _ _ _ _ _ c.steps_from-steps.ensures.valid c.steps_from-steps.ensures.steps c.loop-step-test.true).1

pub loop-step-preserved : goal.loop-step-preserved
loop-step-preserved c =
    let i = c.loop-step.invariant in
    let before : IsVisit c.args.graph.now.ends c.args.kept.now c.args.bond c.args.graph.now.atoms c.args.next
    c.index-at.result.now (slice_index c.args.marks.now c.from.result + 1) c.steps_from-steps.result.now
    c.loop-step.marks c.loop-step.queue.items c.loop-step.step-index =
    record { search = i.search; within = i.within; here = i.here; mark = i.mark; done = i.done } in
    let kept = rw c.from-else-step-bond.ensures at c.if-not-kept-from.false in
    let fresh = rw c.from-else-not-kept-from.ensures at c.if-marks-from-ne0.false in
    let v = visit_push _ _ _ _ _ _ _ _ _ _ _ _ c.steps_from-steps.ensures.valid c.steps_from-steps.ensures.steps before
    c.loop-step-test.true c.if-step-bond.false kept fresh in
    rw (c.in_ok-push.ensures.items, c.from-in-loop-step.ensures)
    (record { search = v.search; within = v.within; here = v.here; mark = v.mark; done = v.done })

pub returns : goal.returns
returns c =
    let i = c.loop-step.invariant in
    visit_done _ _ _ _ _ _ _ _ _ _ _ c.steps_from-steps.ensures.steps (record {
      search = i.search;
      within = i.within;
      here = i.here;
      mark = i.mark;
      done = i.done;
    }) c.loop-step-test.false
