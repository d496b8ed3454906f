use Rattle.smarts_parse.specs.Pattern.{graph_of}
use Rattle.path_print.specs.Prints.{graph_view}
use Rattle.path_print.specs.Texts.{SetsBits}
use Rattle.path_print.proofs.Ways.{IsBitBelow}
use Rattle.path_print.proofs.pattern.need.Given as goal

-- the bits of all paths that begin with the atoms so far are set
abbrev pub invariant-loop-atom : goal.invariant-loop-atom
invariant-loop-atom l = SetsBits (IsBitBelow (graph_view (graph_of l.pattern.top)) l.atom) l.initial.print l.print
