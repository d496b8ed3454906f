use Rattle.std.proofs.Common.{◌≡◌, length, slice_index, refl, ap, subst, ◌∙◌, arith}
use Rattle.std.proofs.lemmas.List.{take_at}
use Rattle.std.proofs.lemmas.Option.{slice_get-get_or}
use Rattle.ring_find.proofs.Leasts.{IsLeastBefore, leasts_more, smallest_from_least}
use Rattle.ring_find.proofs.smallest.smallest_rings.Goals as goal

pub loop-place-preserved : goal.loop-place-preserved
loop-place-preserved c =
    let long : length c.lower_ends.new.small ≡ c.loop-place.small.len = omega (
      arith,
      c.lower_ends.auto.small,
      ap length c.deref_mut.ensures.value,
    ) in
    let within = rw c.ends-ends.ensures.value at c.loop-place-test.true in
    let at = slice_get-get_or c.args.graph.now.ends c.loop-place.place (0, 0) within in
    let one = rw (c.deref_mut.ensures.value, c.ends-ends.ensures.value) at c.lower_ends.ensures.one in
    let other = rw (c.deref_mut.ensures.value, c.ends-ends.ensures.value) at c.lower_ends.ensures.other in
    let others = rw (c.deref_mut.ensures.value, c.ends-ends.ensures.value) at c.lower_ends.ensures.others in
    record {
      count = rw (take_at _ _ _ long)
          (c.lower_ends.auto.small ∙ ap length c.deref_mut.ensures.value ∙ c.loop-place.invariant.count);
      each = rw (take_at _ _ _ long) (leasts_more _ _ _ _ _ _ _ _ refl at c.loop-place.invariant.each one other others);
    }

pub returns : goal.returns
returns c =
    let end : c.loop-place.place ≡ length c.args.graph.now.ends = omega (arith, ap length c.ends-ends.ensures.value) in
    record {
      one_each = c.loop-place.invariant.count;
      each = λ v l. smallest_from_least _ _ _ _ c.requires
          (subst (λ i. IsLeastBefore c.args.graph.now.ends c.args.lengths.now i v
          (slice_index c.loop-place.small.items v)) end (c.loop-place.invariant.each v l));
    }
