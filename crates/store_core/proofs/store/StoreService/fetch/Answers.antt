use Rattle.store_core.proofs.FetchRow.{fetch-none, fetch-page}
use Rattle.store_core.proofs.store.StoreService.fetch.Goals as goal

pub returns-in-Ok-clause-call : goal.returns-in-Ok-clause-call
returns-in-Ok-clause-call g c =
    λ s h. fetch-page c.args.self.now s h c.args.pin.now c.requires.held c.args.want.now c.args.from c.args.limit
    c.fill.new.page.records c.in-Ok.last (c.in-Ok.ensures.page s h.stands)

pub returns-in-Err-clause-call : goal.returns-in-Err-clause-call
returns-in-Err-clause-call g c =
    λ s h. fetch-none c.args.self.now s h c.args.pin.now c.requires.held c.args.want.now c.args.from c.args.limit
    c.clear-in-Err.new.self.records
