use Rattle.store_machine.proofs.Owned.{reown, sound-all}
use Rattle.store_machine.proofs.laws.owners_are_free.Goals as goal

pub returns-clause-steps : goal.returns-clause-steps
returns-clause-steps c = reown

pub returns-clause-sound : goal.returns-clause-sound
returns-clause-sound c = sound-all
