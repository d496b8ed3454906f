use Rattle.store_machine.proofs.Pushed.{commits-change}
use Rattle.store_machine.proofs.laws.commits_change.Goals as goal

pub returns : goal.returns
returns c = commits-change
