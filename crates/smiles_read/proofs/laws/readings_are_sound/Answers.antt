use Rattle.smiles_read.proofs.Sound.{sound, few_hydrogens}
use Rattle.smiles_read.proofs.laws.readings_are_sound.Goals as goal

pub returns-clause-sound : goal.returns-clause-sound
returns-clause-sound c = sound c.bonds_join_atoms.ensures

pub returns-clause-few_hydrogens : goal.returns-clause-few_hydrogens
returns-clause-few_hydrogens c = few_hydrogens
