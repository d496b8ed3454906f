use Rattle.std.proofs.Common.{Some, subst, sym}
use Rattle.record_versions.specs.Entries.{IsLatest}
use Rattle.record_versions.proofs.finder.Finder.at.Goals as goal

pub returns-clause-latest : goal.returns-clause-latest
returns-clause-latest g c =
    subst (λ ks. IsLatest c.args.version ks (Some c.in_ok-entry.entry.now)) (sym c.in_ok-find.ensures.chain)
    c.in_ok-entry.ensures.latest
