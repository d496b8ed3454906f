use Rattle.std.proofs.Common.{◌∙◌, ap, subst}
use Rattle.record_versions.specs.Ahead.{Rise}
use Rattle.record_versions.specs.Entries.{chain_of}
use Rattle.record_versions.proofs.Ahead.{none-first}
use Rattle.record_versions.proofs.finder.first.Goals as goal

pub returns-else-next-id-clause-chain : goal.returns-else-next-id-clause-chain
returns-else-next-id-clause-chain g c =
    ap (λ l. chain_of l c.args.id) c.in_ok-next.ensures.steps
    ∙ none-first c.args.id (c.in_ok-next.next.now, c.in_ok-next.chain.now) c.next.new.self
    (subst (Rise c.args.id) c.in_ok-next.ensures.steps c.requires) c.if-next-id.false
