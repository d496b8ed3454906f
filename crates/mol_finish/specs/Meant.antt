-- The molecule of a sketch with known aromatic atoms and bonds. For callers.
use Rattle.std.specs.Prelude.{ℕ, Bool, true, false, List, map, slice_index, slice_index_or}
use Rattle.std.specs.List.{enumerate_from}
use Rattle.chem_core.specs.declared.mol.Atom.{Atom}
use Rattle.chem_core.specs.declared.mol.Bond.{Bond}
use Rattle.chem_core.specs.declared.mol.BondKind.{BondKind}
use Rattle.chem_core.specs.declared.mol.BondKind.TheVariants as kinds
use Rattle.chem_core.specs.declared.sketch.SketchAtom.{SketchAtom}
use Rattle.chem_core.specs.declared.sketch.SketchBond.{SketchBond}
use Rattle.chem_core.specs.declared.sketch.SketchKind.{SketchKind}
use Rattle.chem_core.specs.declared.sketch.SketchKind.TheVariants.{Unwritten, Single, Double, Triple, Quad, Colon}
use Rattle.chem_core.specs.Sketch.{SketchTerm}
use Rattle.chem_core.specs.Molecule.{Molecule}

-- a bond that is not aromatic keeps its order; without a symbol, or with `:`, it is single
abbrev pub written_kind : SketchKind → BondKind
written_kind Unwritten = kinds.Single
written_kind Single = kinds.Single
written_kind Double = kinds.Double
written_kind Triple = kinds.Triple
written_kind Quad = kinds.Quad
written_kind Colon = kinds.Single

abbrev pub meant_kind : Bool → SketchKind → BondKind
meant_kind true kind = kinds.Aromatic
meant_kind false kind = written_kind kind

-- the atom, aromatic or not, with this valence
abbrev pub meant_atom : Bool → ℕ → SketchAtom → Atom
meant_atom aromatic valence x = record {
  number = x.number;
  isotope = x.isotope;
  charge = x.charge;
  hydrogens = x.hydrogens;
  aromatic = aromatic;
  valence = valence;
}

-- the bond, aromatic or not
abbrev pub meant_bond : Bool → SketchBond → Bond
meant_bond aromatic b = record { a = b.a; b = b.b; kind = meant_kind aromatic b.kind }

-- the atoms, by the lists of the aromatic ones and of their valences
abbrev pub meant_atoms : List Bool → List ℕ → List SketchAtom → List Atom
meant_atoms aromatic valences atoms =
    map (λ p. meant_atom (slice_index_or aromatic p.0 false) (slice_index valences p.0) p.1) (enumerate_from 0 atoms)

-- the bonds, by the list of the aromatic ones
abbrev pub meant_bonds : List Bool → List SketchBond → List Bond
meant_bonds aromatic bonds = map (λ p. meant_bond (slice_index_or aromatic p.0 false) p.1) (enumerate_from 0 bonds)

-- the sketch with these aromatic atoms and bonds, and these valences
abbrev pub meant : SketchTerm → List Bool → List Bool → List ℕ → Molecule
meant s atoms bonds valences = record { atoms = meant_atoms atoms valences s.atoms; bonds = meant_bonds bonds s.bonds }
