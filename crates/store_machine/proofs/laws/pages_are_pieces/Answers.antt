use Rattle.store_machine.proofs.Paging.{pages-are-pieces}
use Rattle.store_machine.proofs.laws.pages_are_pieces.Goals as goal

pub returns : goal.returns
returns c = pages-are-pieces
