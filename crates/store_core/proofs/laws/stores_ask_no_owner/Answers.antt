use Rattle.store_core.proofs.Owners.{asks-no-owner}
use Rattle.store_core.proofs.laws.stores_ask_no_owner.Goals as goal

pub returns : goal.returns
returns c = asks-no-owner c.owners_are_free.ensures.sound
