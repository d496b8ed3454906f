use Rattle.store_machine.proofs.Openings.{crash-opens}
use Rattle.store_machine.proofs.laws.crash_opens.Goals as goal

pub returns : goal.returns
returns c = crash-opens
