-- A sketch whose plain hydrogen atoms have become counts at their neighbours, all at once. For callers.
use Rattle.std.specs.Prelude.{ℕ, ◌+◌, ◌==◌, ◌&&◌, ◌||◌, not, Bool, true, false, List, map, filter, count_by, slice_get, option_map, unwrap_or, pos}
use Rattle.std.specs.List.{list_any, enumerate_from, range_with_len}
use Rattle.std.specs.Ordering.{int_eq}
use Rattle.chem_core.specs.declared.sketch.SketchAtom.{SketchAtom}
use Rattle.chem_core.specs.declared.sketch.SketchBond.{SketchBond}
use Rattle.chem_core.specs.declared.sketch.SketchKind.{SketchKind}
use Rattle.chem_core.specs.declared.sketch.SketchKind.TheVariants.{Unwritten, Single, Double, Triple, Quad, Colon}
use Rattle.chem_core.specs.Sketch.{SketchTerm}
use Rattle.chem_core.specs.Graph.{degree}
use Rattle.chem_core.specs.Sound.{sketch_ends}

-- a bond without a symbol or `-`
abbrev pub is_single_kind : SketchKind → Bool
is_single_kind Unwritten = true
is_single_kind Single = true
is_single_kind Double = false
is_single_kind Triple = false
is_single_kind Quad = false
is_single_kind Colon = false

-- hydrogen without isotope and charge
abbrev pub is_plain_hydrogen : SketchAtom → Bool
is_plain_hydrogen x = (x.number == 1) && ((x.isotope == 0) && int_eq x.charge (pos 0))

-- the atom at a place has the property
abbrev pub atom_is : (SketchAtom → Bool) → List SketchAtom → ℕ → Bool
atom_is p atoms a = unwrap_or (option_map p (slice_get atoms a)) false

-- the atom at a place is an element other than hydrogen
abbrev pub is_heavy : List SketchAtom → ℕ → Bool
is_heavy atoms a = atom_is (λ x. not (x.number == 1)) atoms a

-- a plain bond joins the atom a to an atom that is not hydrogen
abbrev pub leads_to_heavy : List SketchAtom → ℕ → SketchBond → Bool
leads_to_heavy atoms a b = is_single_kind b.kind
    && (((b.a == a) && is_heavy atoms b.b) || ((b.b == a) && is_heavy atoms b.a))

-- The atom is taken away: hydrogen without isotope and charge, whose only bond is plain and leads to an atom that is
-- not hydrogen.
abbrev pub is_suppressed : SketchTerm → ℕ → Bool
is_suppressed s a =
    atom_is is_plain_hydrogen s.atoms a
    && ((degree (sketch_ends s) a == 1) && list_any (leads_to_heavy s.atoms a) s.bonds)

-- the new place of an atom that stays: the number of atoms before it that stay
abbrev pub new_place : (ℕ → Bool) → ℕ → ℕ
new_place goes a = count_by (λ k. not (goes k)) (range_with_len 0 a)

-- the bond joins the atom a to one that goes
abbrev pub brings : (ℕ → Bool) → ℕ → SketchBond → Bool
brings goes a b = ((b.a == a) && goes b.b) || ((b.b == a) && goes b.a)

-- neither end of the bond goes
abbrev pub stays : (ℕ → Bool) → SketchBond → Bool
stays goes b = not (goes b.a) && not (goes b.b)

-- the atoms that stay, in order, each with the hydrogens that it gains
abbrev pub staying_atoms : (ℕ → Bool) → (ℕ → ℕ) → List SketchAtom → List SketchAtom
staying_atoms goes gain atoms = map (λ p. record p.1 { hydrogens = p.1.hydrogens + gain p.0 })
    (filter (λ p. not (goes p.0)) (enumerate_from 0 atoms))

-- the bond between the same atoms at other places
abbrev pub renumbered : (ℕ → ℕ) → SketchBond → SketchBond
renumbered place b = record b { a = place b.a; b = place b.b }

-- the bonds between atoms that stay, in order, by their new places
abbrev pub staying_bonds : (ℕ → Bool) → (ℕ → ℕ) → List SketchBond → List SketchBond
staying_bonds goes place bonds = map (renumbered place) (filter (stays goes) bonds)

-- the number of its neighbours that are taken away
abbrev pub gained : SketchTerm → ℕ → ℕ
gained s a = count_by (brings (is_suppressed s) a) s.bonds

-- the rest: atoms with the hydrogens that they gain, and bonds
abbrev pub suppressed : SketchTerm → SketchTerm
suppressed s = record {
  atoms = staying_atoms (is_suppressed s) (gained s) s.atoms;
  bonds = staying_bonds (is_suppressed s) (new_place (is_suppressed s)) s.bonds;
}
