use Rattle.std.proofs.Common.{option_copied, sym}
use Rattle.store_core.proofs.Indexed.{next-entry, next-id}
use Rattle.store_core.proofs.kept.KeptEntries.next.Goals as goal

pub returns-clause-id : goal.returns-clause-id
returns-clause-id c =
    rw (sym c.self.view_is)
    (next-id c.self.inside.chains c.self.inside.index.entries c.args.want.now c.args.from c.self.invariant.0
    (option_copied c.next.result) c.next.ensures.next)

pub returns-clause-entry : goal.returns-clause-entry
returns-clause-entry c =
    rw (sym c.self.view_is)
    (next-entry c.self.inside.chains c.self.inside.index.entries c.args.want.now c.args.from c.self.invariant.0
    (option_copied c.next.result) c.next.ensures.next)
