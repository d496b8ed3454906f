use Rattle.chem_core.proofs.Prints.{length-bits_of}
use Rattle.chem_core.proofs.print.Print.has.Goals as goal

pub returns-clause-length : goal.returns-clause-length
returns-clause-length c = rw (← c.self.view_is, length-bits_of, c.self.told)
