use Rattle.ring_find.proofs.Ringed.{ring_bonds_one, smallest_rings_one}
use Rattle.ring_find.proofs.one_answer.Goals as goal

pub returns-clause-bonds : goal.returns-clause-bonds
returns-clause-bonds c = ring_bonds_one

pub returns-clause-atoms : goal.returns-clause-atoms
returns-clause-atoms c = smallest_rings_one
