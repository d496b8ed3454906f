use Rattle.std.proofs.Common.{inr}
use Rattle.store_rows.proofs.Only.{pinned-some, taken}
use Rattle.store_rows.proofs.tests.kept.pin.Goals as goal

pub returns-in-Some-clause-held : goal.returns-in-Some-clause-held
returns-in-Some-clause-held c =
    let pin = c.in-Some.pin in
    (c.in_ok-pin.ensures.held pin.slot pin.version).1 (inr (taken c.in_ok-pin.field-0 pin c.in-Some.is))

pub returns-in-Some-clause-only : goal.returns-in-Some-clause-only
returns-in-Some-clause-only c = λ want id h.
    pinned-some want id c.args.store.now c.pin.new.self c.in_ok-pin.field-0 c.in-Some.pin c.in-Some.is
    c.in_ok-pin.ensures.call h
