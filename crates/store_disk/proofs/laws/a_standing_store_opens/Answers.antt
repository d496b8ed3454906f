use Rattle.std.proofs.Common.{sym}
use Rattle.store_disk.proofs.OnDisks.{standing-opens}
use Rattle.store_disk.proofs.laws.a_standing_store_opens.Goals as goal

pub returns : goal.returns
returns g c = rw (sym c.store.view_is)
    (standing-opens c.laws.ensures.sound c.laws.ensures.heads g.D.Disk.model c.store.inside.pair c.laws.ensures.leaves
    c.store.inside.memory _)
