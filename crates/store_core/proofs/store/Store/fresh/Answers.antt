use Rattle.store_core.specs.Stored.{empty, served}
use Rattle.store_core.proofs.Fresh.{fresh-stands}
use Rattle.store_core.proofs.store.Store.fresh.Goals as goal

pub invariant_of-result : goal.invariant_of-result
invariant_of-result c =
    let at = fresh-stands c.args.commits c.new.result c.new-2.result c.requires.few c.new.ensures c.new-2.ensures in
    (served (empty c.args.commits), at.stands)

pub returns : goal.returns
returns c = fresh-stands c.args.commits c.new.result c.new-2.result c.requires.few c.new.ensures c.new-2.ensures
