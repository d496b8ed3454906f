use Rattle.std.proofs.Common.{refl, subst, sym}
use Rattle.std.proofs.lemmas.Option.{IfSome_then}
use Rattle.matcher.specs.Narrow.{IsReach}
use Rattle.matcher.proofs.Narrowings.{near_reach, ring_reach}
use Rattle.matcher.proofs.narrow.Reach.narrow_once.Goals as goal

pub narrow_all-requires-clause-reach : goal.narrow_all-requires-clause-reach
narrow_all-requires-clause-reach c =
    let task = c.args.task.now in
    rw c.deref.ensures.value (IfSome_then c.rings.result c.rings.ensures
    (λ marks h. subst (λ bonds. IsReach task bonds c.args.self.now.ring_near.items) (sym h.1)
    (ring_reach task c.args.closing.now.on_ring.items c.args.self.now.ring_near.items
    (c.requires.noted.marks task refl) (c.requires.noted.ring_near h.0))))

pub narrow_all-requires-in_default-clause-reach : goal.narrow_all-requires-in_default-clause-reach
narrow_all-requires-in_default-clause-reach c =
    rw c.deref-in_default.ensures.value (IfSome_then c.all.result c.all.ensures
    (λ marks h. near_reach c.args.task.now marks.now c.args.self.now.near.items (c.requires.noted.near h)))
