use Rattle.std.proofs.Common.{arith}
use Rattle.smarts_parse.specs.Pattern.{graph_of}
use Rattle.matcher.proofs.Rings.{way_ends, way_longer}
use Rattle.matcher.proofs.ring.+mark_way.Goals as goal

pub returns-then-above-ge2-clause-way : goal.returns-then-above-ge2-clause-way
returns-then-above-ge2-clause-way t c = λ _. way_ends (graph_of c.args.graph.now) c.args.from c.args.to c.args.above
    c.args.marks.now c.if-from-to.true (omega arith)

pub returns-clause-way : goal.returns-clause-way
returns-clause-way t c = λ _. way_longer (graph_of c.args.graph.now) c.args.from c.in-Some.next c.args.to c.args.above _
    c.args.marks.now c.mark_way.new.marks c.mark.new.marks c.in-Some.ensures.lower
    c.in-Some.ensures.joined (c.mark_way.ensures.way c.if-not-mark_way.false) c.mark.ensures
