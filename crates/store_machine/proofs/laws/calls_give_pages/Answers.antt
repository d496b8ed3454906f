use Rattle.store_machine.proofs.ByCalls.{calls-give-pages}
use Rattle.store_machine.proofs.laws.calls_give_pages.Goals as goal

pub returns : goal.returns
returns c = calls-give-pages c.structures_are_molecules.ensures
