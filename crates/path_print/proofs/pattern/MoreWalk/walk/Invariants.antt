use Rattle.std.proofs.Common.{◌⊎◌, ◌+◌, ◌*◌, get_or}
use Rattle.path_print.specs.Texts.{IsBitHere, SetsBits}
use Rattle.path_print.specs.Sheets.{views_of}
use Rattle.path_print.proofs.Ways.{IsBitVia}
use Rattle.path_print.proofs.pattern.MoreWalk.walk.Given as goal

-- the bits of the path and of all that go on to the neighbours so far are set
abbrev pub invariant-loop-place : goal.invariant-loop-place
invariant-loop-place g l =
    SetsBits (λ bit. IsBitHere l.path bit ⊎ IsBitVia (views_of l.sheet) l.path.atoms
    (λ k. get_or l.sheet.rows.now (256 * l.last + k) 0) l.place bit) l.fn.print l.print
