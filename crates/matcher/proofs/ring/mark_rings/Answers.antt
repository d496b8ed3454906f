use Rattle.std.proofs.Common.{length, subst, sym}
use Rattle.smarts_parse.specs.Pattern.{graph_of}
use Rattle.matcher.specs.Ring.{AreRingMarks}
use Rattle.matcher.proofs.Rings.{no_marks}
use Rattle.matcher.proofs.ring.mark_rings.Goals as goal

pub loop-bond-init : goal.loop-bond-init
loop-bond-init c = subst (AreRingMarks (graph_of c.args.graph.now)) (sym (c.fill.ensures.after (λ y h. h)))
    (no_marks (graph_of c.args.graph.now) (length c.args.marks.now))
