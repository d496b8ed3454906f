use Rattle.std.proofs.Common.{◌≡◌, ◌+◌, ◌++◌, ◌∙◌, ap, arith, length, length-append, [], ◌∷◌, sym}
use Rattle.serve_ends.proofs.Slots.{joins-next, rest-next, served-next}
use Rattle.serve_ends.proofs.serve.join_all.Goals as goal

pub loop-slot-preserved : goal.loop-slot-preserved
loop-slot-preserved g c =
    let inv = c.loop-slot.invariant in
    let slot = c.in-Some.slot in
    let ends = c.loop-slot.ends.items in
    let items = c.push_reserved.ensures.items in
    let steps = c.in-Some.ensures.steps in
    let more : length c.push_reserved.new.self.items ≡ length ends + 1 =
    ap length items ∙ length-append ends (_ ∷ []) in
    record {
      rest = rest-next _ _ _ _ _ inv.rest steps.0;
      ends = items ∙ (ap (λ l. l ++ slot.served ∷ []) inv.ends ∙ sym (served-next c.loop-slot.yielded slot));
      of = c.join.ensures.of;
      joins = joins-next _ c.loop-slot.yielded slot _ _ c.in-Some-other.other _ inv.joins c.in-Some-other.is inv.of
          c.join.ensures.of c.join.ensures.merged;
      room = omega (arith, more, steps.1, inv.room, c.push_reserved.ensures.capacity);
    }
