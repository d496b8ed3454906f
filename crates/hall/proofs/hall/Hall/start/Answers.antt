-- The history begins at the state at which the store is.
use Rattle.std.proofs.Common.{ap}
use Rattle.hall.proofs.Lasting.{runs-first}
use Rattle.hall.proofs.Starting.{begins, may-start}
use Rattle.hall.proofs.hall.Hall.start.Goals as goal

pub start-requires-clause-stands : goal.start-requires-clause-stands
start-requires-clause-stands g c =
    let at = c.requires.stands in
    may-start _ c.args.store c.args.opened.value c.in-Ok.kept c.in-Ok.ensures.store
    (ap (λ x. x.value) c.in-Ok.ensures.opened) at.0 at.1 at.2

pub returns-in-Ok-start-clause-begins : goal.returns-in-Ok-start-clause-begins
returns-in-Ok-start-clause-begins g c =
    begins _ c.args.store c.args.opened.value c.in-Ok.kept (record { pass = c.in-Ok-start.pass })
    c.in-Ok.ensures.store (ap (λ x. x.value) c.in-Ok.ensures.opened) c.in-Ok-start.ensures.begins

pub returns-in-Ok-start-clause-runs : goal.returns-in-Ok-start-clause-runs
returns-in-Ok-start-clause-runs g c =
    runs-first _ c.args.store c.args.opened.value (record { pass = c.in-Ok-start.pass })
    (begins _ c.args.store c.args.opened.value c.in-Ok.kept (record { pass = c.in-Ok-start.pass })
    c.in-Ok.ensures.store (ap (λ x. x.value) c.in-Ok.ensures.opened) c.in-Ok-start.ensures.begins)
