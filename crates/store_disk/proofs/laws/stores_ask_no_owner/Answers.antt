use Rattle.store_disk.proofs.Owners.{asks-no-owner}
use Rattle.store_disk.proofs.laws.stores_ask_no_owner.Goals as goal

pub returns : goal.returns
returns g c = asks-no-owner g.D.Disk.model c.stores_ask_no_owner.ensures c.owners_are_free.ensures.sound
