use Rattle.store_machine.proofs.Acknowledged.{commits-stand}
use Rattle.store_machine.proofs.Growing.{runs-add}
use Rattle.store_machine.proofs.Parting.{pins-are-new, slots-were-free}
use Rattle.store_machine.proofs.Told.{told-is-there}
use Rattle.store_machine.proofs.laws.replies_tell.Goals as goal

pub returns-clause-commits : goal.returns-clause-commits
returns-clause-commits c = runs-add

pub returns-clause-stand : goal.returns-clause-stand
returns-clause-stand c = commits-stand

pub returns-clause-versions : goal.returns-clause-versions
returns-clause-versions c = told-is-there

pub returns-clause-slots : goal.returns-clause-slots
returns-clause-slots c = slots-were-free

pub returns-clause-pins : goal.returns-clause-pins
returns-clause-pins c = pins-are-new
