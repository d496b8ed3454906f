-- The faults of the stages, as faults of a text. Want of memory has one name in all of them. For callers.
use Rattle.smiles_read.specs.declared.fault.SmilesFault.{SmilesFault}
use Rattle.smiles_read.specs.declared.fault.SmilesFault.TheVariants as smiles
use Rattle.molfile_read.specs.declared.fault.MolfileFault.{MolfileFault}
use Rattle.molfile_read.specs.declared.fault.MolfileFault.TheVariants as mol
use Rattle.aromatic.specs.declared.perception.AromFault.{AromFault}
use Rattle.aromatic.specs.declared.perception.AromFault.TheVariants as rings
use Rattle.mol_finish.specs.declared.fault.TextFault.{TextFault}
use Rattle.mol_finish.specs.declared.fault.TextFault.TheVariants.{Smiles, Molfile, NoMemory}

-- of the reader of SMILES
abbrev pub reading_fault : SmilesFault → TextFault
reading_fault smiles.NoMemory = NoMemory
reading_fault fault = Smiles fault

-- of the reader of molfiles
abbrev pub molfile_fault : MolfileFault → TextFault
molfile_fault mol.NoMemory = NoMemory
molfile_fault fault = Molfile fault

-- of aromaticity: the place of the atom as written
abbrev pub ring_fault : AromFault → TextFault
ring_fault (rings.Aromatic written) = Smiles (smiles.Aromatic written)
ring_fault rings.NoMemory = NoMemory
