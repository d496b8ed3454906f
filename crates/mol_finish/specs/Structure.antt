-- The structure of a text: the stages, one after another, and the fault of the first that fails. For callers.
use Rattle.std.specs.Prelude.{◌≡◌, ℕ, Bool, List, Result, Ok, Err}
use Rattle.chem_core.specs.Sketch.{SketchTerm}
use Rattle.chem_core.specs.Molecule.{Molecule}
use Rattle.chem_core.specs.Sound.{sketch_ends}
use Rattle.chem_core.specs.RingFacts.{AreRingBonds}
use Rattle.smiles_read.specs.declared.fault.SmilesFault.TheVariants as smiles
use Rattle.smiles_read.specs.Reading.{IsReading}
use Rattle.molfile_read.specs.declared.fault.MolfileFault.TheVariants as mol
use Rattle.molfile_read.specs.Reading as mol_reading
use Rattle.valence.specs.Filled.{filled}
use Rattle.valence.specs.Suppressed.{suppressed}
use Rattle.aromatic.specs.declared.perception.AromFault.{AromFault}
use Rattle.aromatic.specs.declared.perception.AromFault.TheVariants as perceiving
use Rattle.aromatic.specs.Huckel.{IsPerceived, IsFirstRefused}
use Rattle.mol_finish.specs.declared.fault.Format.{Format}
use Rattle.mol_finish.specs.declared.fault.Format.TheVariants as formats
use Rattle.mol_finish.specs.declared.fault.TextFault.{TextFault}
use Rattle.mol_finish.specs.declared.fault.TextFault.TheVariants.{Smiles, Molfile, NoMemory}
use Rattle.mol_finish.specs.Meant.{meant}

-- the sketch of a text with its hydrogens counted, and plain hydrogen atoms as counts
abbrev pub prepared : SketchTerm → SketchTerm
prepared s = suppressed (filled s)

-- a prepared sketch means this molecule: that of its aromatic atoms and bonds and its valences
abbrev pub IsMeant : SketchTerm → Molecule → Type 0
IsMeant s m =
    (rings atoms bonds : List Bool) × (valences : List ℕ) × AreRingBonds (sketch_ends s) rings
    × IsPerceived s rings atoms bonds valences × (m ≡ meant s atoms bonds valences)

-- the w-th atom as written is the first of a prepared sketch that no aromatic ring allows
abbrev pub IsRefusedAt : SketchTerm → ℕ → Type 0
IsRefusedAt s w = (rings : List Bool) × AreRingBonds (sketch_ends s) rings × IsFirstRefused s rings w

-- the text in a format is read as this sketch
abbrev pub IsSketchOf : Format → List ℕ → SketchTerm → Type 0
IsSketchOf formats.Smiles text s = IsReading text (Ok s)
IsSketchOf formats.Molfile text s = mol_reading.IsReading text (Ok s)

-- the text in a format has this molecule
abbrev pub HasMolecule : Format → List ℕ → Molecule → Type 0
HasMolecule format text m = (s : SketchTerm) × IsSketchOf format text s × IsMeant (prepared s) m

-- the text is a SMILES of this molecule
abbrev pub IsStructureOf : List ℕ → Molecule → Type 0
IsStructureOf text m = HasMolecule formats.Smiles text m

-- The answer to a SMILES. Want of memory may come at any text.
abbrev pub IsStructure : List ℕ → Result Molecule TextFault → Type 0
IsStructure text (Ok m) = IsStructureOf text m
IsStructure text (Err (Smiles smiles.Syntax)) = IsReading text (Err smiles.Syntax)
IsStructure text (Err (Smiles smiles.Ring)) = IsReading text (Err smiles.Ring)
IsStructure text (Err (Smiles smiles.Limit)) = IsReading text (Err smiles.Limit)
IsStructure text (Err (Smiles (smiles.Aromatic w))) = (s : SketchTerm) × IsReading text (Ok s)
    × IsRefusedAt (prepared s) w
IsStructure text (Err (Smiles smiles.NoMemory)) = ⊥
IsStructure text (Err (Molfile fault)) = ⊥
IsStructure text (Err NoMemory) = Unit {0}

-- The answer to a molfile: no atom of it is refused as not aromatic.
abbrev pub IsMolfileStructure : List ℕ → Result Molecule TextFault → Type 0
IsMolfileStructure text (Ok m) = HasMolecule formats.Molfile text m
IsMolfileStructure text (Err (Smiles fault)) = ⊥
IsMolfileStructure text (Err (Molfile mol.NoMemory)) = ⊥
IsMolfileStructure text (Err (Molfile fault)) = mol_reading.IsReading text (Err fault)
IsMolfileStructure text (Err NoMemory) = Unit {0}

-- the answer to a text in a format
abbrev pub IsAnswer : Format → List ℕ → Result Molecule TextFault → Type 0
IsAnswer formats.Smiles text answer = IsStructure text answer
IsAnswer formats.Molfile text answer = IsMolfileStructure text answer

-- The molecule of a sketch that was read; want of memory may come at any. For private clauses alone.
abbrev pub IsFinished : SketchTerm → Result Molecule AromFault → Type 0
IsFinished s (Ok m) = IsMeant (prepared s) m
IsFinished s (Err (perceiving.Aromatic w)) = IsRefusedAt (prepared s) w
IsFinished s (Err perceiving.NoMemory) = Unit {0}
