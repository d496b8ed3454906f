use Rattle.drill_core.proofs.Faults.{faults-are-counted}
use Rattle.drill_core.proofs.laws.disk_faults_are_counted.Goals as goal

pub returns : goal.returns
returns c = faults-are-counted
