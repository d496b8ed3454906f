use Rattle.std.proofs.Common.{◌≡◌, length, ap, arith}
use Rattle.std.proofs.lemmas.List.{take_at, length_push}
use Rattle.ring_find.proofs.Visits.{rings_more}
use Rattle.ring_find.proofs.search.ring_lengths.Goals as goal

pub ring_length-requires-clause-before : goal.ring_length-requires-clause-before
ring_length-requires-clause-before c =
    rw c.deref.ensures.value (λ b l. c.loop-place.invariant.each b (omega (arith, l, c.loop-place.invariant.count)))

pub loop-place-preserved : goal.loop-place-preserved
loop-place-preserved c =
    let blank = c.in_ok-length.ensures.blank in
    let long : length c.ring_length.new.marks ≡ c.loop-place.marks.len =
    omega (arith, ap length blank, ap length c.loop-place.invariant.blank) in
    record {
      blank = rw (take_at _ _ _ long) blank;
      count = rw c.in_ok-push.ensures.items
          (omega (
            arith,
            length_push c.loop-place.lengths.items c.in_ok-length.length,
            c.loop-place.invariant.count,
          ));
      each = rw c.in_ok-push.ensures.items (rings_more _ _ _ _ c.loop-place.invariant.count c.loop-place.invariant.each
          c.in_ok-length.ensures.ring);
    }
