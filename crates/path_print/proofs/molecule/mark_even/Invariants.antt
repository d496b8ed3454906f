use Rattle.path_print.specs.Texts.{SetsBits}
use Rattle.path_print.specs.Arms.{views_around}
use Rattle.path_print.proofs.Around.{IsBitInRow}
use Rattle.path_print.proofs.molecule.mark_even.Given as goal

-- the bits of the paths from the arms so far, each to those before it, are set
abbrev pub invariant-loop-place : goal.invariant-loop-place
invariant-loop-place l = SetsBits (IsBitInRow (views_around l.middle) l.middle.atom l.atoms l.row l.place) l.fn.print
    l.print
