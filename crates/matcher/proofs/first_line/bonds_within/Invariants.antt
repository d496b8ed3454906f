use Rattle.std.proofs.Common.{◌≡◌, count_by, min, take}
use Rattle.smarts_parse.specs.Pattern.{graph_of}
use Rattle.matcher.specs.Counted.{is_sure}
use Rattle.matcher.proofs.first_line.bonds_within.Given as goal

-- how many of the bonds so far are surely of the sort
abbrev pub invariant-loop-bond : goal.invariant-loop-bond
invariant-loop-bond l = l.count
    ≡ min 255 (count_by (is_sure l.sort l.steps) (take l.bond-index (graph_of l.graph).bonds))
