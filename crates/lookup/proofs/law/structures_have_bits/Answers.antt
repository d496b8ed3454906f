use Rattle.lookup.proofs.Atoms.{have-bits}
use Rattle.lookup.proofs.law.structures_have_bits.Goals as goal

pub returns : goal.returns
returns c = have-bits
