use Rattle.std.proofs.Common.{◌≡◌, ◌<◌, ℕ, Some, get_or, slice_get}
use Rattle.chem_core.specs.declared.mol.Atom.{Atom}
use Rattle.exact_find.specs.Key.{code}
use Rattle.exact_find.proofs.palette.Palette.start.Given as goal

abbrev pub invariant-loop-place : goal.invariant-loop-place
invariant-loop-place l = record {
  listed : (x : ℕ) → x < l.place → get_or l.self.list.items x 0 ≡ x;
  coloured : (x : ℕ) → x < l.place → (atom : Atom) → slice_get l.mol.atoms x ≡ Some atom
      → get_or l.self.colours.items x 0 ≡ code l.mol (x, atom);
}
