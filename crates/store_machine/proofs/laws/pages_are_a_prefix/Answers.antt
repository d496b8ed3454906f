use Rattle.store_machine.proofs.Paging.{pages-are-a-prefix}
use Rattle.store_machine.proofs.laws.pages_are_a_prefix.Goals as goal

pub returns : goal.returns
returns c = pages-are-a-prefix
