-- The molecule of a sketch has its ends, its atoms' limits, and one more atom or bond at a time.
use Rattle.std.proofs.Common.{ℕ, ◌+◌, ◌<◌, ◌≡◌, Bool, List, [], ◌∷◌, ◌++◌, length, get_or, map, take, false, All, refl, sym, ap, ◌∙◌, arith}
use Rattle.std.specs.List.{enumerate_from}
use Rattle.std.proofs.lemmas.List.{length-map}
use Rattle.std.proofs.lemmas.List.Elements.{All-map}
use Rattle.std.proofs.lemmas.List.FromFn.{length-enumerate_from, get_or-enumerate_from}
use Rattle.chem_core.specs.declared.mol.Atom.{Atom}
use Rattle.chem_core.specs.declared.mol.Bond.{Bond}
use Rattle.chem_core.specs.declared.sketch.SketchAtom.{SketchAtom}
use Rattle.chem_core.specs.declared.sketch.SketchBond.{SketchBond}
use Rattle.chem_core.specs.Enumerated.{mapped-more}
use Rattle.chem_core.specs.Sketch.{SketchTerm}
use Rattle.chem_core.specs.Molecule.{IsAtom, IsMolecule, bond_ends}
use Rattle.chem_core.specs.RingFacts.{AreRingBonds, AreSmallestRings}
use Rattle.chem_core.specs.Sound.{IsSketchAtom, IsSound, sketch_ends}
use Rattle.chem_core.specs.Steps.{Network}
use Rattle.mol_finish.specs.Meant.{meant_atom, meant_bond, meant_atoms, meant_bonds, meant}

-- one more atom
pub atoms-more : (aromatic : List Bool) (valences : List ℕ) (xs : List SketchAtom) (i : ℕ) (d : SketchAtom)
    (made next : List Atom) (one : Atom) → i < length xs → made ≡ meant_atoms aromatic valences (take i xs)
    → one ≡ meant_atom (get_or aromatic i false) (get_or valences i 0) (get_or xs i d) → next ≡ made ++ one ∷ []
    → next ≡ meant_atoms aromatic valences (take (i + 1) xs)
atoms-more aromatic valences xs i d made next one within so_far is pushed =
    let more = mapped-more (λ p. meant_atom (get_or aromatic p.0 false) (get_or valences p.0 0) p.1) xs i d within in
    pushed ∙ ap (λ ys. ys ++ one ∷ []) so_far ∙ ap (λ y. meant_atoms aromatic valences (take i xs) ++ y ∷ []) is
    ∙ sym more

-- one more bond
pub bonds-more : (aromatic : List Bool) (xs : List SketchBond) (i : ℕ) (d : SketchBond) (made next : List Bond)
    (one : Bond) → i < length xs → made ≡ meant_bonds aromatic (take i xs)
    → one ≡ meant_bond (get_or aromatic i false) (get_or xs i d) → next ≡ made ++ one ∷ []
    → next ≡ meant_bonds aromatic (take (i + 1) xs)
bonds-more aromatic xs i d made next one within so_far is pushed =
    let more = mapped-more (λ p. meant_bond (get_or aromatic p.0 false) p.1) xs i d within in
    pushed ∙ ap (λ ys. ys ++ one ∷ []) so_far ∙ ap (λ y. meant_bonds aromatic (take i xs) ++ y ∷ []) is ∙ sym more

ends-from : (aromatic : List Bool) (n : ℕ) (xs : List SketchBond)
    → map {B = ℕ × ℕ} (λ b. (b.a, b.b)) (map (λ p. meant_bond (get_or aromatic p.0 false) p.1) (enumerate_from n xs))
    ≡ map {B = ℕ × ℕ} (λ b. (b.a, b.b)) xs
ends-from aromatic n [] = refl
ends-from aromatic n (x ∷ xs) = ap (λ es. (x.a, x.b) ∷ es) (ends-from aromatic (n + 1) xs)

-- the ends are those of the sketch
pub meant-ends : (aromatic : List Bool) (s : SketchTerm) → bond_ends (meant_bonds aromatic s.bonds) ≡ sketch_ends s
meant-ends aromatic s = ends-from aromatic 0 s.bonds

pub length-meant_atoms : (aromatic : List Bool) (valences : List ℕ) (xs : List SketchAtom)
    → length (meant_atoms aromatic valences xs) ≡ length xs
length-meant_atoms aromatic valences xs =
    length-map (enumerate_from 0 xs) (λ p. meant_atom (get_or aromatic p.0 false) (get_or valences p.0 0) p.1)
    ∙ length-enumerate_from 0 xs

atom-kept : (aromatic : Bool) (valence : ℕ) (x : SketchAtom) → IsSketchAtom x → IsAtom (meant_atom aromatic valence x)
atom-kept aromatic valence x h = record {
  number = h.number;
  isotope = h.isotope;
  lowest_charge = h.lowest_charge;
  highest_charge = h.highest_charge;
}

atoms-from : (aromatic : List Bool) (valences : List ℕ) (xs : List SketchAtom) → All IsSketchAtom xs
    → All IsAtom (meant_atoms aromatic valences xs)
atoms-from aromatic valences xs each =
    All-map IsAtom (λ p. meant_atom (get_or aromatic p.0 false) (get_or valences p.0 0) p.1) (enumerate_from 0 xs)
    (λ i d within.
    let len = length-enumerate_from 0 xs in
    let within' : i < length xs = omega arith in
    rw (get_or-enumerate_from 0 xs i d within') (atom-kept _ _ _ (each i d.1 within')))

-- a sound sketch means a molecule
pub meant-molecule : (s : SketchTerm) (atoms bonds : List Bool) (valences : List ℕ) → IsSound s
    → IsMolecule (meant s atoms bonds valences)
meant-molecule s atoms bonds valences sound = record {
  graph = rw (length-meant_atoms, meant-ends bonds s) sound.graph;
  each = atoms-from atoms valences s.atoms sound.each;
}

-- the same of the lists that were made
pub made-molecule : (s : SketchTerm) (atoms bonds : List Bool) (valences : List ℕ) (made : List Atom)
    (joined : List Bond) → made ≡ meant_atoms atoms valences s.atoms → joined ≡ meant_bonds bonds s.bonds → IsSound s
    → IsMolecule (record { atoms = made; bonds = joined })
made-molecule s atoms bonds valences made joined p q sound = rw (p, q) (meant-molecule s atoms bonds valences sound)

-- an adjacency of the sketch is one of what was made
pub made-network : (s : SketchTerm) (atoms bonds : List Bool) (valences : List ℕ) (made : List Atom)
    (joined : List Bond) (network : Network) → made ≡ meant_atoms atoms valences s.atoms
    → joined ≡ meant_bonds bonds s.bonds → network ≡ record { atoms = length s.atoms; ends = sketch_ends s }
    → network ≡ record { atoms = length made; ends = bond_ends joined }
made-network s atoms bonds valences made joined network p q h =
    rw (p, q, meant-ends bonds s, length-meant_atoms atoms valences s.atoms) h

pub made-rings : (s : SketchTerm) (bonds : List Bool) (joined : List Bond) (rings : List Bool)
    → joined ≡ meant_bonds bonds s.bonds → AreRingBonds (sketch_ends s) rings → AreRingBonds (bond_ends joined) rings
made-rings s bonds joined rings q h = rw (q, meant-ends bonds s) h

pub made-smallest : (s : SketchTerm) (atoms bonds : List Bool) (valences : List ℕ) (made : List Atom)
    (joined : List Bond) (smallest : List ℕ) → made ≡ meant_atoms atoms valences s.atoms
    → joined ≡ meant_bonds bonds s.bonds → AreSmallestRings (length s.atoms) (sketch_ends s) smallest
    → AreSmallestRings (length made) (bond_ends joined) smallest
made-smallest s atoms bonds valences made joined smallest p q h =
    rw (p, q, meant-ends bonds s, length-meant_atoms atoms valences s.atoms) h
