-- The structure of a text is a molecule.
use Rattle.std.proofs.Common.{◌≤◌, ℕ, List, Ok, sym, subst}
use Rattle.std.specs.List.{All}
use Rattle.chem_core.specs.Molecule.{Molecule, IsMolecule}
use Rattle.chem_core.specs.Sketch.{SketchTerm}
use Rattle.chem_core.specs.Sound.{IsSound}
use Rattle.smiles_read.specs.Reading as smiles_reading
use Rattle.molfile_read.specs.Reading as mol_reading
use Rattle.valence.specs.Filled.{filled}
use Rattle.valence.specs.Suppressed.{suppressed}
use Rattle.mol_finish.specs.declared.fault.Format.{Format}
use Rattle.mol_finish.specs.declared.fault.Format.TheVariants.{Smiles, Molfile}
use Rattle.mol_finish.specs.Structure.{IsSketchOf, HasMolecule}
use Rattle.mol_finish.proofs.Meaning.{meant-molecule}

abbrev AreFew : ℕ → SketchTerm → Type 0
AreFew most s = All (λ a. a.hydrogens ≤ most) s.atoms

-- the laws of the stages
pub record Laws : Type 0 where
  pub smiles : (text : List ℕ) (s : SketchTerm) → smiles_reading.IsReading text (Ok s) → IsSound s
  pub smiles_few : (text : List ℕ) (s : SketchTerm) → smiles_reading.IsReading text (Ok s)
      → All (λ a. a.hydrogens ≤ 9) s.atoms
  pub molfile : (text : List ℕ) (s : SketchTerm) → mol_reading.IsReading text (Ok s) → IsSound s
  pub molfile_few : (text : List ℕ) (s : SketchTerm) → mol_reading.IsReading text (Ok s)
      → All (λ a. a.hydrogens ≤ 9) s.atoms
  pub fills : (s : SketchTerm) → IsSound s → IsSound (filled s)
  pub fills_few : (s : SketchTerm) → IsSound s → All (λ a. a.hydrogens ≤ 9) s.atoms
      → All (λ a. a.hydrogens ≤ 15) (filled s).atoms
  pub suppresses : (s : SketchTerm) → IsSound s → All (λ a. a.hydrogens ≤ 15) s.atoms → IsSound (suppressed s)

read-sound : Laws → (format : Format) (text : List ℕ) (s : SketchTerm) → IsSketchOf format text s → IsSound s
read-sound laws Smiles text s h = laws.smiles text s h
read-sound laws Molfile text s h = laws.molfile text s h

read-few : Laws → (format : Format) (text : List ℕ) (s : SketchTerm) → IsSketchOf format text s → AreFew 9 s
read-few laws Smiles text s h = laws.smiles_few text s h
read-few laws Molfile text s h = laws.molfile_few text s h

pub structures-molecules : Laws → (format : Format) (text : List ℕ) (m : Molecule) → HasMolecule format text m
    → IsMolecule m
structures-molecules laws format text m h =
    let s = h.0 in
    let sound = read-sound laws format text s h.1 in
    let whole = laws.suppresses (filled s) (laws.fills s sound)
    (laws.fills_few s sound (read-few laws format text s h.1)) in
    let means = h.2 in
    subst IsMolecule (sym means.6) (meant-molecule (suppressed (filled s)) means.1 means.2 means.3 whole)
