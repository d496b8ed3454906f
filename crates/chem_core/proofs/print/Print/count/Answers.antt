use Rattle.std.proofs.Common.{◌∙◌}
use Rattle.chem_core.proofs.Shared.{shared-self}
use Rattle.chem_core.proofs.print.Print.count.Goals as goal

pub returns-clause-value : goal.returns-clause-value
returns-clause-value c = c.count_shared.ensures.value ∙ shared-self c.args.self.now
