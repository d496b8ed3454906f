use Rattle.aromatic.proofs.MarkSteps.{follow-more}
use Rattle.aromatic.proofs.huckel.mark_path.Goals as goal

pub loop-link-preserved : goal.loop-link-preserved
loop-link-preserved c = rw c.from.ensures (follow-more c.args.path.now c.args.marks.now c.loop-link.marks
    c.loop-link.link-index _ c.loop-link-test.true
    (rw c.loop-link.auto.marks (c.requires c.loop-link.link-index _ c.loop-link-test.true)) c.loop-link.invariant)
