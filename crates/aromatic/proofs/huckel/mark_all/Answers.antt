use Rattle.std.proofs.lemmas.List.{length-set}
use Rattle.chem_core.specs.Sound.{ends_among}
use Rattle.aromatic.proofs.Sketches.{bond-in_graph}
use Rattle.aromatic.proofs.MarkSteps.{ends_at_place, ends-same, ends-more}
use Rattle.aromatic.proofs.huckel.mark_all.Goals as goal
use Rattle.aromatic.proofs.huckel.mark_all.Goals.{then-marks-place, else-marks-place}

pub bounds-flags-from : goal.bounds-flags-from
bounds-flags-from c = rw (c.from.ensures, c.loop-place.auto.flags) (bond-in_graph _ _ c.loop-place.place _
    c.requires.graph c.loop-place-test.true).0

pub bounds-flags-from-then-marks-place : goal.bounds-flags-from-then-marks-place
bounds-flags-from-then-marks-place c = rw (length-set, c.from-then-marks-place.ensures, c.loop-place.auto.flags)
    (bond-in_graph _ _ c.loop-place.place _ c.requires.graph c.loop-place-test.true).1

pub loop-place-preserved : goal.loop-place-preserved
loop-place-preserved c = elim c.if-marks-place.branch [
  | then-marks-place w ↦
      let range = bond-in_graph _ _ c.loop-place.place _ c.requires.graph c.loop-place-test.true in
      rw (w.flags-is, w.from.ensures, w.from-then-marks-place.ensures)
      (ends-more (ends_among c.args.bonds.now) c.args.marks.now c.loop-place.flags c.loop-place.place _ _
      (ends_at_place c.args.bonds.now c.loop-place.place _ c.loop-place-test.true) w.if-marks-place.true
      (rw c.loop-place.auto.flags range.0) (rw c.loop-place.auto.flags range.1) c.loop-place.invariant)
  | else-marks-place w ↦ rw w.flags-is (ends-same (ends_among c.args.bonds.now) c.args.marks.now c.loop-place.flags
      c.loop-place.place w.if-marks-place.false c.loop-place.invariant)
]
