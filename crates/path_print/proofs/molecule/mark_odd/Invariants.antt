use Rattle.std.proofs.Common.{take}
use Rattle.path_print.specs.Texts.{SetsBits}
use Rattle.path_print.specs.Arms.{IsBitOfSome, views_around}
use Rattle.path_print.proofs.Around.{IsBitFromLower}
use Rattle.path_print.proofs.molecule.mark_odd.Given as goal

-- the bits of the paths from the longer arms so far are set
abbrev pub invariant-loop-first : goal.invariant-loop-first
invariant-loop-first l =
    SetsBits (IsBitOfSome (IsBitFromLower (views_around l.middle) l.middle.atom l.behind l.row)
    (take l.first-index l.longer)) l.fn.print l.print
