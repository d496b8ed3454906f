use Rattle.chem_shell.specs.Words.{texts}
use Rattle.chem_shell.proofs.Asked.{scripts_of_plan}
use Rattle.chem_shell.proofs.words.plan.Goals as goal

pub returns-in-Ok-clause-scripts : goal.returns-in-Ok-clause-scripts
returns-in-Ok-clause-scripts c = scripts_of_plan (texts c.args.words.now) c.in-Ok.plan c.in-Ok.ensures.ok
