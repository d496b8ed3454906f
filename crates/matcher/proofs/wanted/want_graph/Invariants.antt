use Rattle.std.proofs.Common.{ℕ, ◌<◌, get_or}
use Rattle.smarts_parse.specs.declared.pattern.AtomPrim.{AtomPrim}
use Rattle.smarts_parse.specs.Pattern.{Term, graph_of}
use Rattle.matcher.specs.Wanted.{AreWithin, IsAsked}
use Rattle.matcher.proofs.wanted.want_graph.Given as goal

-- what the expressions so far want is added
abbrev pub invariant-loop-expr : goal.invariant-loop-expr
invariant-loop-expr l = record {
  more : AreWithin l.initial.wanted l.wanted;
  asked : (k : ℕ) (d : Term AtomPrim) → k < l.expr-index → IsAsked l.wanted (get_or (graph_of l.graph).atoms k d);
}
