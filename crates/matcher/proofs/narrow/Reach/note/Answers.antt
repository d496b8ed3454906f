use Rattle.std.proofs.Common.{◌≡◌, arith, length, subst, sym}
use Rattle.matcher.specs.Narrow.{AreNear, AreRingNear}
use Rattle.matcher.proofs.Places.{take_all}
use Rattle.matcher.proofs.narrow.Reach.note.Goals as goal

pub returns-clause-near : goal.returns-clause-near
returns-clause-near c = λ asked.
    let reach = c.args.self.now in
    let same : length c.note_neighbours.new.near ≡ reach.near.len = omega
    (arith, c.deref_mut.ensures.len, c.note_neighbours.auto.near) in
    subst (AreNear c.args.mol.now) (sym (take_all reach.near.len c.note_neighbours.new.near _ (sym same)))
    (c.note_neighbours.ensures asked)

pub returns-clause-ring_near : goal.returns-clause-ring_near
returns-clause-ring_near c = λ asked.
    let reach = c.args.self.now in
    let same : length c.note_ring_neighbours.new.near ≡ reach.ring_near.len = omega
    (arith, c.deref_mut-2.ensures.len, c.note_ring_neighbours.auto.near) in
    subst (AreRingNear c.args.mol.now) (sym (take_all reach.ring_near.len c.note_ring_neighbours.new.near _ (sym same)))
    (c.note_ring_neighbours.ensures asked)
