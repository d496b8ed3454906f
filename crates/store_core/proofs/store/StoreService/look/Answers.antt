use Rattle.std.proofs.Common.{sym}
use Rattle.store_core.specs.Kept.{kept_of}
use Rattle.store_core.proofs.Rows.{look-call}
use Rattle.store_core.proofs.Sees.{entry-of}
use Rattle.store_core.proofs.store.StoreService.look.Goals as goal

pub returns-clause-call : goal.returns-clause-call
returns-clause-call c =
    rw (sym c.self.view_is)
    (λ s h. look-call c.laws.ensures.read c.laws.ensures.states _ s c.args.id (kept_of c.latest.result) c.of.result h
    c.latest.ensures c.of.ensures.look c.of.ensures.err)

pub returns-clause-entry : goal.returns-clause-entry
returns-clause-entry c =
    let was = c.self.invariant in
    c.of.ensures.entry c.args.id
    (entry-of _ was.0 was.1 c.args.id c.self.inside.version (kept_of c.latest.result) c.latest.ensures)
