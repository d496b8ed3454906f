use Rattle.std.proofs.lemmas.Option.{slice_get-get_or}
use Rattle.ring_find.proofs.Labels.{keeps_dropped}
use Rattle.ring_find.proofs.bridges.drop_between.Goals as goal
use Rattle.ring_find.proofs.bridges.drop_between.Goals.{then-labels-from, else-labels-from}

pub loop-place-preserved : goal.loop-place-preserved
loop-place-preserved c =
    let at = slice_get-get_or c.args.ends.now c.loop-place.place (0, 0) c.loop-place-test.true in
    elim c.if-labels-from.branch [
      | then-labels-from w ↦
          let differ = rw (c.from.ensures, c.from-in-loop-place.ensures) at w.if-labels-from.true in
          rw w.kept-is (keeps_dropped c.args.ends.now c.args.labels.now c.loop-place.kept c.loop-place.place _ _
          c.requires.forest at differ c.loop-place.invariant)
      | else-labels-from w ↦ rw w.kept-is c.loop-place.invariant
    ]
