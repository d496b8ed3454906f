use Rattle.smarts_parse.specs.Pattern.{graph_of}
use Rattle.matcher.specs.Ring.{AreRingMarks}
use Rattle.matcher.proofs.ring.mark_rings.Given as goal

-- what is marked lies on rings
abbrev pub invariant-loop-bond : goal.invariant-loop-bond
invariant-loop-bond l = AreRingMarks (graph_of l.graph) l.marks
