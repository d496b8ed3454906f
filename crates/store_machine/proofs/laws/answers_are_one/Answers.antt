use Rattle.store_machine.proofs.Finds.{answers-are-one}
use Rattle.store_machine.proofs.laws.answers_are_one.Goals as goal

pub returns : goal.returns
returns c = answers-are-one
