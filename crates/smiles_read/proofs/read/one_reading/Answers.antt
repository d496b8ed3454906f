use Rattle.smiles_read.proofs.Exclusion as exclusion
use Rattle.smiles_read.proofs.read.one_reading.Goals as goal

pub returns : goal.returns
returns c = exclusion.one_reading c.one_tree.ensures c.one_graph.ensures
