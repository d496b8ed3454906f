use Rattle.valence.proofs.Hydrogens.{filled-sound, filled-few}
use Rattle.valence.proofs.Staying.{suppressed-sound}
use Rattle.valence.proofs.laws.sound_stays.Goals as goal

pub returns-clause-filled : goal.returns-clause-filled
returns-clause-filled c = filled-sound

pub returns-clause-few : goal.returns-clause-few
returns-clause-few c = filled-few

pub returns-clause-suppressed : goal.returns-clause-suppressed
returns-clause-suppressed c = suppressed-sound
