use Rattle.std.proofs.Common.{◌≡◌, ◌∙◌, [], inl, inr, Option, refl, sym}
use Rattle.par_search.specs.Faults.{fault_of}
use Rattle.snap_registry.specs.declared.Pin.{Pin}
use Rattle.lookup.specs.Fetches.{Failed, IsAnew, Looked, NoneFree}
use Rattle.par_search.proofs.Held.{not_raised-more}
use Rattle.lookup.proofs.Held.{none_taken}
use Rattle.par_search.proofs.Joined.{makes-more, makes-none}
use Rattle.lookup.proofs.Looked.{SeenAll, fails-map, left_known, left_worn, looked-passed, looked-unasked, looks-is, pin_failed_by, pinned_from}
use Rattle.lookup.proofs.Walking.{says-worn}
use Rattle.lookup.proofs.pages.see_newer.Goals as goal

pub returns-in_err-page-clause-looks : goal.returns-in_err-page-clause-looks
returns-in_err-page-clause-looks g c =
    let all = SeenAll g.V.Visit.has_seen c.args.given.now c.args.visitor.now c.args.visitor.now in
    looked-unasked all c.from_residual.result c.from_residual.ensures.1
    (makes-none g.met.S.Service.stays c.args.service.now)

pub returns-in_default-clause-looks : goal.returns-in_default-clause-looks
returns-in_default-clause-looks g c =
    Failed _ (NoneFree (record { made = rw c.in_default.is at c.in_ok-pin.ensures.call })
    (none_taken _ _ (rw c.in_default.is at c.in_ok-pin.ensures.held))) tt

pub returns-in_err-pin-clause-looks : goal.returns-in_err-pin-clause-looks
returns-in_err-pin-clause-looks g c =
    let all = SeenAll g.V.Visit.has_seen c.args.given.now c.args.visitor.now c.args.visitor.now in
    let fault = c.in_err-pin.field-0.0 in
    looked-passed all (fault_of fault) c.from_residual-in_err-pin.result c.from_residual-in_err-pin.ensures.1
    (pin_failed_by c.args.size c.args.want.now all (IsAnew c.args.known) c.args.service.now c.pin.new.self fault
    (record { made = c.in_err-pin.ensures.call }) c.in_err-pin.ensures.held c.in_err-pin.ensures.memory
    (λ e. c.in_err-pin.ensures.worn.1 (says-worn (Option Pin) fault e)))

-- the version is known
pub unpin-requires : goal.unpin-requires
unpin-requires g c =
    let p = c.in-Some.pin in
    let taken = rw c.in-Some.is at c.in_ok-pin.ensures.held in
    record { held = (taken p.slot p.version).1 (inr (refl, refl)) }

pub returns-then-is_known-clause-looks : goal.returns-then-is_known-clause-looks
returns-then-is_known-clause-looks g c =
    let p = c.in-Some.pin in
    let is = c.in-Some.is in
    let pinned = pinned_from g.S.Service c.args.service.now c.pin.new.self p
    (record { made = rw is at c.in_ok-pin.ensures.call }) (rw is at c.in_ok-pin.ensures.held)
    (rw is at c.in_ok-pin.ensures.apart) c.in_ok-pin.ensures.bounds in
    left_known c.args.size c.args.want.now
    (SeenAll g.V.Visit.has_seen c.args.given.now c.args.visitor.now c.args.visitor.now)
    (λ a b d xs ys u w. makes-more g.met.S.Service.joins g.met.S.Service.lands g.met.S.Service.same u w)
    c.args.service.now c.pin.new.self c.unpin.new.self p (makes-none g.met.S.Service.stays c.pin.new.self) pinned
    c.args.known c.if-is_known.true (record { made = c.in_ok-unpin.ensures.call }) c.in_ok-unpin.ensures.held

pub returns-in_err-unpin-clause-looks : goal.returns-in_err-unpin-clause-looks
returns-in_err-unpin-clause-looks g c =
    let p = c.in-Some.pin in
    let is = c.in-Some.is in
    let pinned = pinned_from g.S.Service c.args.service.now c.pin.new.self p
    (record { made = rw is at c.in_ok-pin.ensures.call }) (rw is at c.in_ok-pin.ensures.held)
    (rw is at c.in_ok-pin.ensures.apart) c.in_ok-pin.ensures.bounds in
    let all = SeenAll g.V.Visit.has_seen c.args.given.now c.args.visitor.now c.args.visitor.now in
    let l = left_worn c.args.size c.args.want.now all
    (λ a b d xs ys u w. makes-more g.met.S.Service.joins g.met.S.Service.lands g.met.S.Service.same u w)
    c.args.service.now c.pin.new.self c.unpin.new.self p (makes-none g.met.S.Service.stays c.pin.new.self) pinned
    c.in_err-unpin.field-0.0 (record { made = c.in_err-unpin.ensures.call }) c.in_err-unpin.ensures.memory
    c.in_err-unpin.ensures.held (λ e. c.in_err-unpin.ensures.worn.1 (says-worn (Unit {0}) c.in_err-unpin.field-0.0 e)) in
    looked-passed all (fault_of c.in_err-unpin.field-0.0) c.from_residual-in_err-unpin.result
    c.from_residual-in_err-unpin.ensures.1
    (l.0, fails-map (λ version pages. pages ≡ []) (IsAnew c.args.known) (λ version pages none. inl none) l.0 l.1)

pub returns-then-is_known-clause-bounds : goal.returns-then-is_known-clause-bounds
returns-then-is_known-clause-bounds g c = not_raised-more _ _ _ c.in_ok-pin.ensures.bounds c.in_ok-unpin.ensures.bounds

pub returns-in_err-unpin-clause-bounds : goal.returns-in_err-unpin-clause-bounds
returns-in_err-unpin-clause-bounds g c =
    not_raised-more _ _ _ c.in_ok-pin.ensures.bounds c.in_err-unpin.ensures.bounds

-- it is not
pub see_pinned-requires-clause-held : goal.see_pinned-requires-clause-held
see_pinned-requires-clause-held g c =
    let p = c.in-Some.pin in
    let taken = rw c.in-Some.is at c.in_ok-pin.ensures.held in
    (taken p.slot p.version).1 (inr (refl, refl))

pub returns-clause-looks : goal.returns-clause-looks
returns-clause-looks g c =
    let p = c.in-Some.pin in
    let is = c.in-Some.is in
    let pinned = pinned_from g.S.Service c.args.service.now c.pin.new.self p
    (record { made = rw is at c.in_ok-pin.ensures.call }) (rw is at c.in_ok-pin.ensures.held)
    (rw is at c.in_ok-pin.ensures.apart) c.in_ok-pin.ensures.bounds in
    let no = c.if-is_known.false in
    Looked _ (looks-is (c.in_ok-seen.ensures.looks c.args.service.now pinned).0 _
    (λ version records seen h. ((λ e. no (sym h.0 ∙ e)), (h.1, h.2, h.3))))

pub returns-in_err-seen-clause-looks : goal.returns-in_err-seen-clause-looks
returns-in_err-seen-clause-looks g c =
    let p = c.in-Some.pin in
    let is = c.in-Some.is in
    let pinned = pinned_from g.S.Service c.args.service.now c.pin.new.self p
    (record { made = rw is at c.in_ok-pin.ensures.call }) (rw is at c.in_ok-pin.ensures.held)
    (rw is at c.in_ok-pin.ensures.apart) c.in_ok-pin.ensures.bounds in
    let no = c.if-is_known.false in
    let l = c.in_err-seen.ensures.looks c.args.service.now pinned in
    looked-passed (SeenAll g.V.Visit.has_seen c.args.given.now c.args.visitor.now c.see_pinned.new.visitor)
    c.in_err-seen.field-0.0 c.from_residual-in_err-seen.result c.from_residual-in_err-seen.ensures.1 (
      l.0,
      fails-map (λ version pages. version ≡ p.version) (IsAnew c.args.known)
          (λ version pages e. inr (λ k. no (sym e ∙ k))) l.0 l.1,
    )

pub returns-clause-bounds : goal.returns-clause-bounds
returns-clause-bounds g c =
    not_raised-more _ _ _ c.in_ok-pin.ensures.bounds c.in_ok-seen.ensures.bounds

pub returns-in_err-seen-clause-bounds : goal.returns-in_err-seen-clause-bounds
returns-in_err-seen-clause-bounds g c =
    not_raised-more _ _ _ c.in_ok-pin.ensures.bounds c.in_err-seen.ensures.bounds
