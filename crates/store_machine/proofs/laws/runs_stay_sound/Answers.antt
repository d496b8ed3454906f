use Rattle.store_machine.proofs.Sound.{runs-stay-sound}
use Rattle.store_machine.proofs.laws.runs_stay_sound.Goals as goal

pub returns : goal.returns
returns c = runs-stay-sound
