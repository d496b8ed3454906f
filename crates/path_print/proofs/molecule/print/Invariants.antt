use Rattle.std.proofs.Common.{◌≡◌, length}
use Rattle.path_print.specs.Prints.{molecule_view}
use Rattle.path_print.specs.Texts.{SetsBits}
use Rattle.path_print.specs.Arms.{IsBitBelow}
use Rattle.path_print.proofs.molecule.print.Given as goal

-- the bits of the paths around the atoms so far are set
abbrev pub invariant-loop-place : goal.invariant-loop-place
invariant-loop-place l = record {
  bits : SetsBits (IsBitBelow (molecule_view l.mol) l.place) l.initial.print l.print;
  ones : length l.ones ≡ 12;
  twos : length l.twos ≡ 144;
}
