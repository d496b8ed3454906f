use Rattle.std.proofs.Common.{drop, map}
use Rattle.smarts_parse.specs.Pattern.{graph_of}
use Rattle.smarts_parse.specs.Whole.{Whole}
use Rattle.smarts_parse.specs.Build.{IsBuildable, IsBuilt}
use Rattle.smarts_parse.proofs.build.pattern.Given as goal

abbrev pub invariant-loop-part : goal.invariant-loop-part
invariant-loop-part l = (whole : Whole) → IsBuildable whole l.fn.closed
    → IsBuilt whole.parts (drop l.part-index l.fn.closed.parts.items) l.unplaced.items (map graph_of l.recs.items)
