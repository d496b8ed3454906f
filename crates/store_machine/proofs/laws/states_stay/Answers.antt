use Rattle.store_machine.proofs.Made.{states-stay}
use Rattle.store_machine.proofs.laws.states_stay.Goals as goal

pub returns : goal.returns
returns c = states-stay
