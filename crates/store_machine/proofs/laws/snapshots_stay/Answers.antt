use Rattle.store_machine.proofs.PagesRead.{snapshots-stay}
use Rattle.store_machine.proofs.laws.snapshots_stay.Goals as goal

pub returns : goal.returns
returns c = snapshots-stay
