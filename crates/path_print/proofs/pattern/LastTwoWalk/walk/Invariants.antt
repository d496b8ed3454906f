use Rattle.std.proofs.Common.{◌⊎◌, ◌+◌, ◌*◌, get_or}
use Rattle.std.specs.Prelude.{IfSome}
use Rattle.path_print.specs.Texts.{IsBitHere, SetsBits}
use Rattle.path_print.specs.Sheets.{views_of, AreTwins}
use Rattle.path_print.proofs.Ways.{IsBitVia}
use Rattle.path_print.proofs.pattern.LastTwoWalk.walk.Given as goal

-- The bits of all paths that go on to the neighbours so far are set, those from the twins among them.
abbrev pub invariant-loop-place : goal.invariant-loop-place
invariant-loop-place l = record {
  bits : SetsBits (λ bit. IsBitHere l.path bit ⊎ IsBitVia (views_of l.sheet) l.path.atoms
      (λ k. get_or l.sheet.rows.now (256 * l.last + k) 0) l.place bit) l.fn.print l.print;
  twins : IfSome l.twins (λ t. AreTwins l.sheet l.path t l.print);
}
