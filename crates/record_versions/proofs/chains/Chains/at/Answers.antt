use Rattle.std.proofs.Common.{◌∙◌, ap, Some, subst}
use Rattle.record_versions.specs.Entries.{IsLatest, chain_of, entries_in}
use Rattle.record_versions.proofs.chains.Chains.at.Goals as goal

pub returns-clause-latest : goal.returns-clause-latest
returns-clause-latest g c =
    subst (λ ks. IsLatest c.args.version ks (Some c.in_ok-entry.entry.now))
    (ap entries_in c.in_ok-get.ensures.value ∙ ap (λ l. chain_of l c.args.id) c.self.view_is)
    c.in_ok-entry.ensures.latest
