use Rattle.aromatic.proofs.Found.{ends-aromatic}
use Rattle.aromatic.proofs.huckel.find_atoms.Goals as goal

pub returns : goal.returns
returns c = ends-aromatic _ _ _ _ c.requires.marks c.in_ok-flags.ensures.count c.in_ok-flags.ensures.each
