use Rattle.std.proofs.Common.{◌≡◌, length, take}
use Rattle.smarts_parse.specs.Pattern.{graph_of}
use Rattle.path_print.specs.Squares.{IsSquare}
use Rattle.path_print.proofs.pattern.fill.Given as goal

-- what the bonds so far imply
abbrev pub invariant-loop-bond : goal.invariant-loop-bond
invariant-loop-bond l = record {
  size : length l.square ≡ 65536;
  bonds : IsSquare (take l.bond-index (graph_of l.graph).bonds) l.square;
}
