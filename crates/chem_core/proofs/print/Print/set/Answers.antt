use Rattle.std.proofs.lemmas.List.{length-set}
use Rattle.chem_core.proofs.Prints.{length-bits_of}
use Rattle.chem_core.proofs.print.Print.set.Goals as goal

pub returns-clause-length : goal.returns-clause-length
returns-clause-length c = rw (c.set_bit.ensures, length-set, length-bits_of, c.self.told)
