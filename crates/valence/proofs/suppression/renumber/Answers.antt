use Rattle.std.proofs.Common.{slice_index}
use Rattle.valence.proofs.Kept.{renumbered-more}
use Rattle.valence.proofs.suppression.renumber.Goals as goal

pub loop-bond-preserved : goal.loop-bond-preserved
loop-bond-preserved c =
    rw (c.from.ensures, c.from-in-loop-bond.ensures)
    (renumbered-more (λ k. slice_index c.args.places.now k) c.args.bonds.now c.loop-bond.bonds c.loop-bond.bond-index _
    c.loop-bond-test.true c.loop-bond.auto.bonds c.loop-bond.invariant)
