use Rattle.record_versions.proofs.Ahead.{own-from}
use Rattle.record_versions.proofs.finder.Finder.begin.Goals as goal

pub invariant_of-result : goal.invariant_of-result
invariant_of-result g c =
    own-from c.args.chains.now.entries c.range.result c.args.id c.range.ensures.ordered (c.range.ensures.between tt)
