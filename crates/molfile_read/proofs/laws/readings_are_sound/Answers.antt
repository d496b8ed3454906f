use Rattle.molfile_read.proofs.Sound.{sound, few_hydrogens, no_aromatic_mark}
use Rattle.molfile_read.proofs.laws.readings_are_sound.Goals as goal

pub returns-clause-sound : goal.returns-clause-sound
returns-clause-sound c = sound

pub returns-clause-few_hydrogens : goal.returns-clause-few_hydrogens
returns-clause-few_hydrogens c = few_hydrogens

pub returns-clause-no_aromatic_mark : goal.returns-clause-no_aromatic_mark
returns-clause-no_aromatic_mark c = no_aromatic_mark
