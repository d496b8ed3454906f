use Rattle.std.proofs.Common.{◌∙◌, ap, subst, sym}
use Rattle.record_versions.specs.Entries.{chain_of}
use Rattle.record_versions.specs.Readings.{IsAhead, Reads}
use Rattle.record_versions.proofs.Ahead.{rise-from}
use Rattle.record_versions.proofs.Walk.{chain-between}
use Rattle.record_versions.proofs.chains.Chains.readings.Goals as goal

pub returns-clause-ahead : goal.returns-clause-ahead
returns-clause-ahead g c =
    let all = c.self.inside.chains.entries in
    let left = c.range.result in
    subst (λ (r : Reads g.row.V.Denot). IsAhead c.args.from c.args.self.now r.ahead) (sym c.begin.ensures) (
      rise-from all left c.args.from c.range.ensures.ordered (c.range.ensures.between tt),
      λ id low. chain-between c.args.from id low all left (c.range.ensures.between tt)
          ∙ ap (λ l. chain_of l id) c.self.view_is,
    )
