use Rattle.chem_core.proofs.Prints.{lacks-none}
use Rattle.chem_core.proofs.print.lacked.Goals as goal

pub returns : goal.returns
returns c = lacks-none c.args.have c.args.want c.ranges.have.fits c.ranges.want.fits
