use Rattle.store_machine.proofs.Paging.{pages-are-the-answer}
use Rattle.store_machine.proofs.laws.pages_are_the_answer.Goals as goal

pub returns : goal.returns
returns c = pages-are-the-answer c.structures_are_molecules.ensures
