use Rattle.std.proofs.Common.{ℕ, ◌<◌, get_or, All}
use Rattle.smarts_parse.specs.Pattern.{GraphTerm, pattern_of}
use Rattle.matcher.specs.Wanted.{IsAsked}
use Rattle.matcher.proofs.wanted.want_all.Given as goal

-- what the top graph and the parts so far want is added
abbrev pub invariant-loop-graph : goal.invariant-loop-graph
invariant-loop-graph l = record {
  top : All (IsAsked l.wanted) (pattern_of l.pattern).top.atoms;
  parts : (k : ℕ) (d : GraphTerm) → k < l.graph-index
      → All (IsAsked l.wanted) (get_or (pattern_of l.pattern).recs k d).atoms;
}
