use Rattle.valence.proofs.Kept.{front-kept, front-gone, gain-fits}
use Rattle.valence.proofs.suppression.to_front.Goals as goal
use Rattle.valence.proofs.suppression.to_front.Goals.{then-not-gone, else-not-gone}

pub overflow_add-atom : goal.overflow_add-atom
overflow_add-atom c = gain-fits c.args.gains.now c.args.atoms.now c.loop-place.atoms c.loop-place.place _
    c.loop-place.invariant.rest c.loop-place-test.true c.requires.few c.requires.few_more

pub loop-place-preserved : goal.loop-place-preserved
loop-place-preserved c = elim c.if-not-gone.branch [
  | then-not-gone w ↦ rw (w.atoms-is, w.kept-is) (front-kept _ _ c.args.atoms.now c.loop-place.atoms c.loop-place.kept
      c.loop-place.place _ c.loop-place.invariant c.loop-place-test.true c.loop-place.auto.atoms w.if-not-gone.true)
  | else-not-gone w ↦ rw (w.atoms-is, w.kept-is) (front-gone _ _ c.args.atoms.now c.loop-place.atoms c.loop-place.kept
      c.loop-place.place c.loop-place.invariant c.loop-place-test.true w.if-not-gone.false)
]
