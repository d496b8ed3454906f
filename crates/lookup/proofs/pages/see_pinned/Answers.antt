use Rattle.std.proofs.Common.{◌≡◌, false, refl, Result, subst, true, ℕ}
use Rattle.par_search.specs.Faults.{fault_of}
use Rattle.store_core.specs.declared.words.CallFault.{CallFault}
use Rattle.lookup.specs.Walks.{Walks}
use Rattle.par_search.proofs.Held.{not_raised-more}
use Rattle.par_search.proofs.Joined.{makes-more}
use Rattle.lookup.proofs.Looked.{SeenFrom, any-walked, fails-map, fails-never, looked_all, looked_short, looked_worn, looks-passed-by}
use Rattle.lookup.proofs.Walking.{Gave, says-worn}
use Rattle.lookup.proofs.pages.see_pinned.Goals as goal

pub unpin-requires : goal.unpin-requires
unpin-requires g c =
    let p = c.args.pin in
    let any = any-walked g.S.Service c.args.service.now c.see_pages-seen.new.service p.slot c.args.size c.args.want.now
    (Gave g.V.Visit.has_seen c.args.given.now c.args.visitor.now c.see_pages-seen.new.visitor)
    c.see_pages-seen.result c.see_pages-seen.ensures in
    record { held = (any.1.held p.slot p.version).1 c.requires.held }

pub returns-in_err-unpin-clause-looks : goal.returns-in_err-unpin-clause-looks
returns-in_err-unpin-clause-looks g c before h =
    let p = c.args.pin in
    let all = SeenFrom p.version g.V.Visit.has_seen c.args.given.now c.args.visitor.now c.see_pages-seen.new.visitor in
    let w = looked_worn c.args.size c.args.want.now all
    (λ a b d xs ys u w. makes-more g.met.S.Service.joins g.met.S.Service.lands g.met.S.Service.same u w)
    before c.args.service.now c.see_pages-seen.new.service c.unpin.new.self p h.made h.held h.free
    (Gave g.V.Visit.has_seen c.args.given.now c.args.visitor.now c.see_pages-seen.new.visitor)
    c.see_pages-seen.result c.see_pages-seen.ensures c.in_err-unpin.field-0.0
    (record { made = c.in_err-unpin.ensures.call }) c.in_err-unpin.ensures.memory c.in_err-unpin.ensures.held
    (λ e. c.in_err-unpin.ensures.worn.1 (says-worn (Unit {0}) c.in_err-unpin.field-0.0 e)) in
    looks-passed-by all (λ version pages. version ≡ p.version) (fault_of c.in_err-unpin.field-0.0) c.from_residual.result
    c.from_residual.ensures.1 (w.0, fails-map _ (λ version pages. version ≡ p.version) (λ version pages h. h.0) w.0 w.1)

pub returns-in_err-unpin-clause-bounds : goal.returns-in_err-unpin-clause-bounds
returns-in_err-unpin-clause-bounds g c =
    let any = any-walked g.S.Service c.args.service.now c.see_pages-seen.new.service c.args.pin.slot c.args.size
    c.args.want.now (Gave g.V.Visit.has_seen c.args.given.now c.args.visitor.now c.see_pages-seen.new.visitor)
    c.see_pages-seen.result c.see_pages-seen.ensures in
    not_raised-more _ _ _ any.1.bounds c.in_err-unpin.ensures.bounds

pub returns-clause-looks : goal.returns-clause-looks
returns-clause-looks g c before h =
    let p = c.args.pin in
    fails-never (λ version pages. version ≡ p.version) (looked_all c.args.size c.args.want.now
    (SeenFrom p.version g.V.Visit.has_seen c.args.given.now c.args.visitor.now c.see_pages-seen.new.visitor)
    (λ a b d xs ys u w. makes-more g.met.S.Service.joins g.met.S.Service.lands g.met.S.Service.same u w)
    before c.args.service.now c.see_pages-seen.new.service c.unpin.new.self p h.made h.held h.free
    c.in_ok-count.count
    (Gave g.V.Visit.has_seen c.args.given.now c.args.visitor.now c.see_pages-seen.new.visitor) _
    (subst (λ (r : Result ℕ CallFault). Walks g.S.Service c.args.service.now c.see_pages-seen.new.service p.slot
    c.args.size c.args.want.now
    (Gave g.V.Visit.has_seen c.args.given.now c.args.visitor.now c.see_pages-seen.new.visitor) r)
    c.in_ok-count.was c.see_pages-seen.ensures)
    (record { made = c.in_ok-unpin.ensures.call }) c.in_ok-unpin.ensures.held (λ records k. (refl, refl, k.0, k.1)))

pub returns-clause-bounds : goal.returns-clause-bounds
returns-clause-bounds g c =
    let any = any-walked g.S.Service c.args.service.now c.see_pages-seen.new.service c.args.pin.slot c.args.size
    c.args.want.now (Gave g.V.Visit.has_seen c.args.given.now c.args.visitor.now c.see_pages-seen.new.visitor)
    c.see_pages-seen.result c.see_pages-seen.ensures in
    not_raised-more _ _ _ any.1.bounds c.in_ok-unpin.ensures.bounds

pub returns-in_err-count-clause-looks : goal.returns-in_err-count-clause-looks
returns-in_err-count-clause-looks g c before h =
    let p = c.args.pin in
    let all = SeenFrom p.version g.V.Visit.has_seen c.args.given.now c.args.visitor.now c.see_pages-seen.new.visitor in
    looks-passed-by all (λ version pages. version ≡ p.version) (fault_of c.in_err-count.field-0.0)
    c.from_residual-in_err-count.result
    c.from_residual-in_err-count.ensures.1
    (looked_short c.args.size c.args.want.now all
    (λ a b d xs ys u w. makes-more g.met.S.Service.joins g.met.S.Service.lands g.met.S.Service.same u w)
    before c.args.service.now c.see_pages-seen.new.service c.unpin.new.self p h.made h.held h.free
    (Gave g.V.Visit.has_seen c.args.given.now c.args.visitor.now c.see_pages-seen.new.visitor) c.in_err-count.field-0.0
    (subst (λ (r : Result ℕ CallFault). Walks g.S.Service c.args.service.now c.see_pages-seen.new.service p.slot
    c.args.size c.args.want.now
    (Gave g.V.Visit.has_seen c.args.given.now c.args.visitor.now c.see_pages-seen.new.visitor) r)
    c.in_err-count.was c.see_pages-seen.ensures)
    (record { made = c.in_ok-unpin.ensures.call }) c.in_ok-unpin.ensures.held
    (λ worn. not_so (c.in_ok-unpin.ensures.worn.0 worn)))
  where
    not_so : false ≡ true → ⊥
    not_so e = cc

pub returns-in_err-count-clause-bounds : goal.returns-in_err-count-clause-bounds
returns-in_err-count-clause-bounds g c =
    let any = any-walked g.S.Service c.args.service.now c.see_pages-seen.new.service c.args.pin.slot c.args.size
    c.args.want.now (Gave g.V.Visit.has_seen c.args.given.now c.args.visitor.now c.see_pages-seen.new.visitor)
    c.see_pages-seen.result c.see_pages-seen.ensures in
    not_raised-more _ _ _ any.1.bounds c.in_ok-unpin.ensures.bounds
