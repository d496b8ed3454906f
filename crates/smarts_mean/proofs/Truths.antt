-- A primitive at the atom or the bond that is read at a place.
use Rattle.std.proofs.Common.{◌≡◌, ◌↔◌, ℕ, Bool, IsTrue, slice_get, Some, eqb, sym, subst, ◌∙◌}
use Rattle.std.proofs.lemmas.Bool.{eq-eqb, eqb-true}
use Rattle.chem_core.specs.declared.mol.Atom.{Atom}
use Rattle.chem_core.specs.declared.mol.Bond.{Bond}
use Rattle.chem_core.specs.Graph.{IsRingBondCount}
use Rattle.chem_core.specs.Molecule.{Molecule, ends_of}
use Rattle.smarts_parse.specs.declared.pattern.AtomPrim.{AtomPrim}
use Rattle.smarts_parse.specs.declared.pattern.AtomPrim.TheVariants as atoms
use Rattle.smarts_parse.specs.declared.pattern.BondPrim.{BondPrim}
use Rattle.smarts_parse.specs.Pattern.{Prim}
use Rattle.smarts_parse.specs.Truth.{AtomTrue, AtomPrimTrue, BondTrue, BondPrimTrue}
use Rattle.smarts_mean.proofs.Chosen.{ring_bond_count_one}

pub bond_prim : (m : Molecule) (b : ℕ) (p : BondPrim) (r : Bool) (x : Bond) → slice_get m.bonds b ≡ Some x
    → IsTrue r ↔ BondPrimTrue p m b x → IsTrue r ↔ BondTrue (Prim p) m b
bond_prim m b p r x e h = (
  λ t. (x, e, h.0 t),
  λ w. let same : w.0 ≡ x = cc
      in h.1 (subst (BondPrimTrue p m b) same w.2),
)

pub atom_prim : (parts : ℕ → ℕ → Type 0) (m : Molecule) (a : ℕ) (p : AtomPrim) (r : Bool) (x : Atom)
    → slice_get m.atoms a ≡ Some x → IsTrue r ↔ AtomPrimTrue parts p m a x → IsTrue r ↔ AtomTrue parts (Prim p) m a
atom_prim parts m a p r x e h = (
  λ t. (x, e, h.0 t),
  λ w. let same : w.0 ≡ x = cc
      in h.1 (subst (AtomPrimTrue parts p m a) same w.2),
)

-- `x` with a number asks for the one count of ring bonds
pub ring_bonds_some : (parts : ℕ → ℕ → Type 0) (p : AtomPrim) (m : Molecule) (a : ℕ) (x : Atom) (n k r : ℕ)
    → p ≡ atoms.RingBonds (Some n) → IsRingBondCount (ends_of m) a k → r ≡ n
    → IsTrue (eqb k r) ↔ AtomPrimTrue parts p m a x
ring_bonds_some parts p m a x n k r is count same = subst (λ q. IsTrue (eqb k r) ↔ AtomPrimTrue parts q m a x) (sym is) (
  λ t. subst (IsRingBondCount (ends_of m) a) (eqb-true k r t ∙ same) count,
  λ w. eq-eqb k r (ring_bond_count_one (ends_of m) a k n count w ∙ sym same),
)
