use Rattle.store_machine.proofs.Growing.{runs-grow}
use Rattle.store_machine.proofs.laws.runs_grow.Goals as goal

pub returns : goal.returns
returns c = runs-grow
