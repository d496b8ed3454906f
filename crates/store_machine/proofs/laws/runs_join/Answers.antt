use Rattle.store_machine.proofs.Joins.{calms-join, runs-join}
use Rattle.store_machine.proofs.laws.runs_join.Goals as goal

pub returns-clause-runs : goal.returns-clause-runs
returns-clause-runs c = runs-join

pub returns-clause-calm : goal.returns-clause-calm
returns-clause-calm c = calms-join
