use Rattle.mol_finish.proofs.UniqueMol.{answers-one}
use Rattle.mol_finish.proofs.answer.one_answer.Goals as goal

pub returns : goal.returns
returns c = answers-one c.one_reading.ensures c.one_reading-2.ensures c.one_answer.ensures.bonds
