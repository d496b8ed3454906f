use Rattle.mol_finish.proofs.UniqueMol.{structures-one}
use Rattle.mol_finish.proofs.answer.one_structure.Goals as goal

pub returns : goal.returns
returns c = structures-one c.one_reading.ensures c.one_reading-2.ensures c.one_answer.ensures.bonds
