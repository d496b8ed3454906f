use Rattle.std.proofs.Common.{inr, Option, refl}
use Rattle.par_search.specs.Faults.{fault_of}
use Rattle.snap_registry.specs.declared.Pin.{Pin}
use Rattle.lookup.specs.Fetches.{NoneFree}
use Rattle.par_search.proofs.Held.{not_raised-more}
use Rattle.lookup.proofs.Held.{none_taken}
use Rattle.par_search.proofs.Joined.{makes-none}
use Rattle.lookup.proofs.Looked.{SeenAll, looks-is, looks-passed, looks-unasked, pin_failed, pinned_from}
use Rattle.lookup.proofs.Walking.{says-worn}
use Rattle.lookup.proofs.pages.see_head.Goals as goal

pub returns-in_err-page-clause-looks : goal.returns-in_err-page-clause-looks
returns-in_err-page-clause-looks g c =
    looks-unasked (SeenAll g.V.Visit.has_seen c.args.given.now c.args.visitor.now c.args.visitor.now)
    c.from_residual.result c.from_residual.ensures.1 (makes-none g.met.S.Service.stays c.args.service.now)

pub returns-in_default-clause-looks : goal.returns-in_default-clause-looks
returns-in_default-clause-looks g c =
    NoneFree (record { made = rw c.in_default.is at c.in_ok-pin.ensures.call })
    (none_taken _ _ (rw c.in_default.is at c.in_ok-pin.ensures.held))

pub returns-in_err-pin-clause-looks : goal.returns-in_err-pin-clause-looks
returns-in_err-pin-clause-looks g c =
    let all = SeenAll g.V.Visit.has_seen c.args.given.now c.args.visitor.now c.args.visitor.now in
    let fault = c.in_err-pin.field-0.0 in
    looks-passed all (fault_of fault) c.from_residual-in_err-pin.result c.from_residual-in_err-pin.ensures.1
    (pin_failed c.args.size c.args.want.now all c.args.service.now c.pin.new.self fault
    (record { made = c.in_err-pin.ensures.call }) c.in_err-pin.ensures.held c.in_err-pin.ensures.memory
    (λ e. c.in_err-pin.ensures.worn.1 (says-worn (Option Pin) fault e)))

pub see_pinned-requires-clause-held : goal.see_pinned-requires-clause-held
see_pinned-requires-clause-held g c =
    let p = c.in-Some.pin in
    let taken = rw c.in-Some.is at c.in_ok-pin.ensures.held in
    (taken p.slot p.version).1 (inr (refl, refl))

pub returns-clause-looks : goal.returns-clause-looks
returns-clause-looks g c =
    let p = c.in-Some.pin in
    let is = c.in-Some.is in
    let pinned = pinned_from g.S.Service c.args.service.now c.pin.new.self p
    (record { made = rw is at c.in_ok-pin.ensures.call }) (rw is at c.in_ok-pin.ensures.held)
    (rw is at c.in_ok-pin.ensures.apart) c.in_ok-pin.ensures.bounds in
    looks-is (c.see_pinned.ensures.looks c.args.service.now pinned).0
    (SeenAll g.V.Visit.has_seen c.args.given.now c.args.visitor.now c.see_pinned.new.visitor)
    (λ version records seen h. (h.1, h.2, h.3))

pub returns-clause-bounds : goal.returns-clause-bounds
returns-clause-bounds g c = not_raised-more _ _ _ c.in_ok-pin.ensures.bounds c.see_pinned.ensures.bounds
