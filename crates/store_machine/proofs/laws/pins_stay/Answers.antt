use Rattle.store_machine.proofs.PagesRead.{pins-stay}
use Rattle.store_machine.proofs.laws.pins_stay.Goals as goal

pub returns : goal.returns
returns c = pins-stay
