use Rattle.chem_core.proofs.Neighbours.{AreNeighbours-one}
use Rattle.chem_core.proofs.mol.one_neighbour_list.Goals as goal

pub returns : goal.returns
returns c = AreNeighbours-one
