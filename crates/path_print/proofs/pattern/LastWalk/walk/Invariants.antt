use Rattle.std.proofs.Common.{◌⊎◌, ◌+◌, ◌*◌, get_or}
use Rattle.std.specs.Prelude.{IfSome}
use Rattle.path_print.specs.Texts.{IsBitHere, IsMarked, SetsBits}
use Rattle.path_print.specs.Sheets.{views_of}
use Rattle.path_print.proofs.Ways.{IsBitVia}
use Rattle.path_print.proofs.pattern.LastWalk.walk.Given as goal

-- The bits of the path and of all that go on to the neighbours so far are set, those of the marked step among them.
abbrev pub invariant-loop-place : goal.invariant-loop-place
invariant-loop-place l = record {
  bits : SetsBits (λ bit. IsBitHere l.path bit ⊎ IsBitVia (views_of l.sheet) l.path.atoms
      (λ k. get_or l.sheet.rows.now (256 * l.last + k) 0) l.place bit) l.fn.print l.print;
  marked : IfSome l.marked (λ s. IsMarked l.path s.byte s.known l.print);
}
