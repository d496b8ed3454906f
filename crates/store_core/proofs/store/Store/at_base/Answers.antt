use Rattle.std.proofs.Common.{[]}
use Rattle.store_core.specs.Based.{based}
use Rattle.store_core.proofs.Based.{starts}
use Rattle.store_core.proofs.store.Store.at_base.Goals as goal

pub invariant_of-result : goal.invariant_of-result
invariant_of-result c = (
  based c.args.version [],
  starts c.args.version c.new.result c.new-2.result c.requires c.new.ensures c.new-2.ensures,
)

pub returns-clause-stands : goal.returns-clause-stands
returns-clause-stands c = starts c.args.version c.new.result c.new-2.result c.requires c.new.ensures c.new-2.ensures
