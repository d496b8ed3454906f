use Rattle.journal_core.proofs.LookLaws.{narrows_none}
use Rattle.chem_shell.proofs.outcome.Outcome.unserved.Goals as goal

pub returns-clause-read_a : goal.returns-clause-read_a
returns-clause-read_a g c = narrows_none g.D.Disk.model _ (g.met.D.Disk.only_now _)

pub returns-clause-read_b : goal.returns-clause-read_b
returns-clause-read_b g c = narrows_none g.D.Disk.model _ (g.met.D.Disk.only_now _)
