use Rattle.std.proofs.Common.{take}
use Rattle.path_print.specs.Texts.{SetsBits}
use Rattle.path_print.specs.Arms.{IsBitAt, IsBitOfSome, path_of, views_around}
use Rattle.path_print.proofs.molecule.mark_from.Given as goal

-- the bits of the paths to the arms so far are set
abbrev pub invariant-loop-last : goal.invariant-loop-last
invariant-loop-last l =
    SetsBits (IsBitOfSome (λ last. IsBitAt (views_around l.middle)
    (path_of l.before l.first l.middle.atom l.behind last)) (take l.last-index l.row)) l.fn.print l.print
