use Rattle.chem_core.specs.Molecule.{ends_of}
use Rattle.smarts_mean.proofs.Rings.{small_some}
use Rattle.smarts_mean.proofs.count.is_ring_atom.Goals as goal

pub returns : goal.returns
returns c = small_some (ends_of c.args.mol.now) c.args.atom c.small.result c.small.ensures
