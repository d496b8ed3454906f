-- From what the stages find to the answer to the text.
use Rattle.std.proofs.Common.{ℕ, ◌≡◌, Bool, List, length, ap, subst, ◌∙◌, Ok, Err}
use Rattle.std.specs.List.{enumerate_from}
use Rattle.std.proofs.lemmas.List.{length-map}
use Rattle.std.proofs.lemmas.List.FromFn.{length-enumerate_from}
use Rattle.chem_core.specs.Sketch.{SketchTerm}
use Rattle.chem_core.specs.Molecule.{Molecule}
use Rattle.chem_core.specs.RingFacts.{AreRingBonds}
use Rattle.chem_core.specs.Sound.{sketch_ends}
use Rattle.smiles_read.specs.Reading.{IsReading}
use Rattle.aromatic.specs.declared.perception.AromFault.{AromFault}
use Rattle.aromatic.specs.declared.perception.AromFault.TheVariants as perceiving
use Rattle.aromatic.specs.Huckel.{IsPerceived, IsFirstRefused, IsFaultOf, valence_of}
use Rattle.molfile_read.specs.declared.fault.MolfileFault.{MolfileFault}
use Rattle.molfile_read.specs.declared.fault.MolfileFault.TheVariants as mol
use Rattle.molfile_read.specs.Reading as mol_reading
use Rattle.molfile_read.specs.Reading.{HasNoAromaticMark}
use Rattle.mol_finish.specs.Faults.{ring_fault, molfile_fault}
use Rattle.mol_finish.specs.Meant.{meant}
use Rattle.mol_finish.specs.Structure.{IsMeant, IsRefusedAt, IsStructure, IsMolfileStructure, IsFinished, prepared}
use Rattle.mol_finish.proofs.Marks.{never-refused}

pub length-valences : (s : SketchTerm) (rings atoms bonds : List Bool) (sums : List ℕ)
    → IsPerceived s rings atoms bonds sums → length sums ≡ length s.atoms
length-valences s rings atoms bonds sums h = ap length h.valences ∙ length-map (enumerate_from 0 s.atoms)
    (λ p. valence_of s rings atoms bonds p.0 p.1) ∙ length-enumerate_from 0 s.atoms

-- a molecule of the prepared sketch
pub structure-made : (s p : SketchTerm) (rings flags atoms bonds : List Bool) (sums : List ℕ) (m : Molecule)
    → p ≡ prepared s → AreRingBonds (sketch_ends p) rings → flags ≡ rings → IsPerceived p flags atoms bonds sums
    → m ≡ meant p atoms bonds sums
    → IsMeant (prepared s) m
structure-made s p rings flags atoms bonds sums m is facts same perceived means =
    let found = subst (λ xs. IsPerceived p xs atoms bonds sums) same perceived in
    subst (λ q. IsMeant q m) is (rings, atoms, bonds, sums, facts, found, means)

-- a fault of perception
pub structure-refused : (s p : SketchTerm) (rings flags : List Bool) (e : AromFault) → p ≡ prepared s
    → AreRingBonds (sketch_ends p) rings → flags ≡ rings → IsFaultOf p flags e → IsFinished s (Err e)
structure-refused s p rings flags (perceiving.Aromatic w) is facts same first =
    let here = subst (λ xs. IsFirstRefused p xs w) same first in
    subst (λ q. IsRefusedAt q w) is (rings, facts, here)
structure-refused s p rings flags perceiving.NoMemory is facts same first = tt

-- the answer to a SMILES
pub smiles-refused : (text : List ℕ) (s : SketchTerm) (e : AromFault) → IsReading text (Ok s) → IsFinished s (Err e)
    → IsStructure text (Err (ring_fault e))
smiles-refused text s (perceiving.Aromatic w) read h = (s, read, h)
smiles-refused text s perceiving.NoMemory read h = tt

-- the answer to a molfile
pub molfile-unread : (text : List ℕ) (e : MolfileFault) → mol_reading.IsReading text (Err e)
    → IsMolfileStructure text (Err (molfile_fault e))
molfile-unread text mol.Header h = h
molfile-unread text (mol.Columns n) h = h
molfile-unread text (mol.Bond n) h = h
molfile-unread text (mol.Query n) h = h
molfile-unread text mol.Limit h = h
molfile-unread text mol.Cut h = h
molfile-unread text mol.NoMemory h = tt

pub molfile-refused : (text : List ℕ) (s : SketchTerm) (e : AromFault) → HasNoAromaticMark s → IsFinished s (Err e)
    → IsMolfileStructure text (Err (ring_fault e))
molfile-refused text s (perceiving.Aromatic w) plain h = absurd (never-refused s w plain h)
molfile-refused text s perceiving.NoMemory plain h = tt
