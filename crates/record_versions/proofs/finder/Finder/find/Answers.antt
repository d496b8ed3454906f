use Rattle.std.proofs.Common.{◌≡◌, ◌∙◌, [], ap, arith, MatchOption, subst}
use Rattle.record_versions.specs.Entries.{chain_of}
use Rattle.record_versions.proofs.Ahead.{own-from, rise-from}
use Rattle.record_versions.proofs.Walk.{chain-between}
use Rattle.record_versions.proofs.finder.Finder.find.Goals as goal

pub invariant_of-self : goal.invariant_of-self
invariant_of-self g c = (c.near.ensures.own c.self.inside.chains.now.entries c.self.invariant).0

pub first-requires : goal.first-requires
first-requires g c =
    rise-from c.self.inside.chains.now.entries c.range-self-inside.result c.args.id c.range-self-inside.ensures.ordered
    (c.range-self-inside.ensures.between tt)

pub invariant_of-self-2 : goal.invariant_of-self-2
invariant_of-self-2 g c =
    c.first.ensures.own c.self.inside.chains.now.entries
    (own-from c.self.inside.chains.now.entries c.range-self-inside.result c.args.id c.range-self-inside.ensures.ordered
    (c.range-self-inside.ensures.between tt))

pub returns-clause-chain : goal.returns-clause-chain
returns-clause-chain g c =
    subst (λ ks. MatchOption c.first.result (ks ≡ []) (λ chain. ks ≡ chain.now.entries))
    (chain-between c.args.id c.args.id (omega arith) c.self.inside.chains.now.entries c.range-self-inside.result
    (c.range-self-inside.ensures.between tt) ∙ ap (λ l. chain_of l c.args.id) c.self.view_is)
    c.first.ensures.chain
