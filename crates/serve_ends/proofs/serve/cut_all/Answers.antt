use Rattle.std.proofs.Common.{◌≡◌, ◌+◌, ◌∙◌, ap, arith, length, length-append, [], ◌∷◌, refl}
use Rattle.hall.specs.Passes.{known}
use Rattle.serve_ends.proofs.Slots.{cut-more, ends-next, gave-next, rest-next}
use Rattle.serve_ends.proofs.serve.cut_all.Goals as goal

pub loop-served-preserved : goal.loop-served-preserved
loop-served-preserved g c =
    let inv = c.loop-served.invariant in
    let slots = c.loop-served.slots.items in
    let v = known c.args.pass.now in
    let items = c.push_reserved.ensures.items in
    let steps = c.in-Some.ensures.steps in
    let more : length c.push_reserved.new.self.items ≡ length slots + 1 =
    ap length items ∙ length-append slots (_ ∷ []) in
    record {
      rest = rest-next _ _ _ _ _ inv.rest steps.0;
      ends = ends-next slots _ _ _ items inv.ends;
      of = c.split-other.ensures.of;
      gave = gave-next (length slots) _ v _ _ inv.gave c.split-other.ensures.gives more;
      cut = cut-more _ v slots _ _ c.split-other.result _ items refl c.split-other.ensures.other inv.gave
          c.split-other.ensures.given inv.cut;
      room = omega (arith, more, steps.1, inv.room, c.push_reserved.ensures.capacity);
    }
