use Rattle.std.proofs.Common.{◌+◌, ◌-◌, cond}
use Rattle.io_edge.proofs.Outcome.{Started}
use Rattle.io_edge.proofs.lines.Lines.next_line.Given as goal

-- nothing was done yet, or bytes were taken for want of an answer
abbrev pub invariant-loop-answer : goal.invariant-loop-answer
invariant-loop-answer g l = Started g.S.Source.left g.S.Source.faults l.fn.self l.fn.source l.self l.source

abbrev pub decreases-loop-answer : goal.decreases-loop-answer
decreases-loop-answer g l = l.self.limit - l.self.taken + cond l.self.ended 0 1
