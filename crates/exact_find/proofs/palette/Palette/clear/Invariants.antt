use Rattle.std.proofs.Common.{◌≡◌, ◌<◌, ℕ, get_or}
use Rattle.exact_find.specs.declared.levels.TheConstants.{FAR}
use Rattle.exact_find.proofs.palette.Palette.clear.Given as goal

abbrev pub invariant-loop-place : goal.invariant-loop-place
invariant-loop-place l = record {
  far : (x : ℕ) → x < l.place → get_or l.self.levels.items x 0 ≡ FAR;
  coloured : (x : ℕ) → x < l.place → get_or l.self.colours.items x 0 ≡ get_or l.rough x 0;
}
