use Rattle.std.proofs.Common.{◌≢◌, ◌≤◌, ◌⊎◌, inl, inr, length, slice_index, get_or, arith}
use Rattle.ring_find.proofs.Visits.{queued_within, ring_start, ring_done}
use Rattle.ring_find.proofs.search.ring_length.Goals as goal
use Rattle.ring_find.proofs.search.ring_length.Goals.{then-loop-next-test+else-marks-from-eq0, else-loop-next-test}

pub loop-next-init : goal.loop-next-init
loop-next-init c =
    rw (
      c.in_ok-push.ensures.items,
      c.clear.ensures.items,
      c.from-3.ensures,
      c.requires.blank,
      c.ends.ensures.value,
      c.from-2.ensures,
    )
    (ring_start _ _ _ _ c.ends.ensures.valid c.requires.bond)

pub unmark-requires-clause-in_range : goal.unmark-requires-clause-in_range
unmark-requires-clause-in_range c =
    rw c.deref.ensures.value (λ k d l. queued_within _ _ _ _ _ _ k d c.loop-next.invariant l)

pub returns-clause-ring : goal.returns-clause-ring
returns-clause-ring c =
    let end : (slice_index c.loop-next.marks (get_or c.args.graph.now.ends c.args.bond (0, 0)).1 ≢ 0)
    ⊎ (length c.loop-next.queue.items ≤ c.loop-next.next) =
    elim c.loop-next-test.branch [
      | then-loop-next-test+else-marks-from-eq0 w ↦
          inl (rw (w.from-in-loop-next.ensures, c.ends.ensures.value, c.from-2.ensures) at w.if-marks-from-eq0.false)
      | else-loop-next-test w ↦ inr (omega (arith, w.loop-next-test.false))
    ] in
    rw (c.from-4.ensures, c.ends.ensures.value, c.from-2.ensures)
    (ring_done _ _ _ _ _ _ _ c.ends.ensures.valid c.requires.kept c.requires.bond c.loop-next.invariant end)
