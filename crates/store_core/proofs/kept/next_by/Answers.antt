use Rattle.std.proofs.Common.{◌+◌, None, Some}
use Rattle.record_versions.specs.Readings.{IsAhead, IsFirstAt}
use Rattle.store_core.proofs.Firsts.{first-is, then-ahead}
use Rattle.store_core.proofs.kept.next_by.Goals as goal

pub returns-clause-first : goal.returns-clause-first
returns-clause-first g c = λ from chains ahead.
    first-is c.args.readings.now.version from chains (λ r. IsAhead (r.0 + 1) chains c.next.new.self.ahead)
    c.next.result (c.next.ensures.next from chains ahead)

pub returns-clause-ahead : goal.returns-clause-ahead
returns-clause-ahead g c = λ from chains ahead.
    let version = c.args.readings.now.version in
    then-ahead (IsFirstAt version from chains None)
    (λ r. IsFirstAt version from chains (Some (r.0, record { version = r.1; value = r.2.now })))
    (λ r. IsAhead (r.0 + 1) chains c.next.new.self.ahead) c.next.result (c.next.ensures.next from chains ahead)
