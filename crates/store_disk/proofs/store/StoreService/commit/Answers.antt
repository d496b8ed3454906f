use Rattle.std.proofs.Common.{◌≤◌, ◌∙◌, ap, arith, length, List, option_map, refl, subst, sym, ℕ}
use Rattle.journal_core.specs.Records.{IsShort}
use Rattle.store_core.specs.Replies.{change_of}
use Rattle.store_core.specs.Stored.{served}
use Rattle.store_disk.specs.Copies.{copy_of, queued}
use Rattle.store_disk.proofs.Commits.{commit-ready, done, faulted, refused-ready, refused-result, wanting-result}
use Rattle.store_disk.proofs.Payloads.{some-payload}
use Rattle.store_disk.proofs.store.StoreService.commit.Goals as goal

pub returns-in_err-payload-clause-call : goal.returns-in_err-payload-clause-call
returns-in_err-payload-clause-call g c =
    let d = g.D.Disk.model in
    rw (sym c.self.view_is)
    (λ s h. wanting-result d g.met.D.Disk.only_now c.laws.ensures.sound c.laws.ensures.heads _ c.laws.ensures.leaves
    s c.args.change c.from_residual.result c.from_residual.ensures.1 h)

pub returns-in_err-reserve-clause-call : goal.returns-in_err-reserve-clause-call
returns-in_err-reserve-clause-call g c =
    let d = g.D.Disk.model in
    rw (sym c.self.view_is, c.reserve.ensures.same)
    (λ s h. wanting-result d g.met.D.Disk.only_now c.laws.ensures.sound c.laws.ensures.heads _ c.laws.ensures.leaves
    s c.args.change c.from_residual-in_err-reserve.result c.from_residual-in_err-reserve.ensures.1 h)

pub returns-in_err-prepare-clause-call : goal.returns-in_err-prepare-clause-call
returns-in_err-prepare-clause-call g c =
    let d = g.D.Disk.model in
    rw (sym c.self.view_is, c.reserve.ensures.same)
    (λ s h. refused-result d g.met.D.Disk.only_now c.laws.ensures.sound c.laws.ensures.heads _ c.laws.ensures.leaves
    c.prepare.new.self s c.args.change _ c.from_residual-in_err-prepare.result
    c.from_residual-in_err-prepare.ensures.1 (c.prepare.ensures.stands (served s) h.memory.stands) h
    (c.in_err-prepare.ensures.why s h.memory.stands))

pub returns-clause-call : goal.returns-clause-call
returns-clause-call g c =
    let d = g.D.Disk.model in
    rw (sym c.self.view_is, c.version.ensures)
    (λ s h.
    let stands = c.prepare.ensures.stands (served s) h.memory.stands in
    done d c.laws.ensures.sound c.laws.ensures.heads c.laws.ensures.grown _ s h c.args.change
    (c.in_ok-prepare.ensures.prepared.may_add s stands) c.make.new.self c.append.new.self _ c.append.ensures.goes.a
    c.append.ensures.goes.b c.append.ensures.header c.append.ensures.progress c.deref.result.now
    (c.deref.ensures.value ∙ c.in_ok-payload.ensures.payload) c.append.ensures.moments
    (c.make.ensures.committed s stands)
    (c.queue.ensures ∙ (ap (option_map (queued c.in_ok-payload.payload.items)) c.reserve.ensures.same
    ∙ ap (λ q. option_map (queued q) (option_map copy_of c.self.inside.copy)) (sym c.deref.ensures.value)))
    c.in-Ok.ensures.in_doubt c.in-Ok.ensures.gives)

pub returns-in-Err-clause-call : goal.returns-in-Err-clause-call
returns-in-Err-clause-call g c =
    let d = g.D.Disk.model in
    rw (sym c.self.view_is, c.commit_fault.ensures)
    (λ s h.
    let stands = c.prepare.ensures.stands (served s) h.memory.stands in
    faulted d c.laws.ensures.sound c.laws.ensures.heads c.laws.ensures.grown _ s h c.args.change
    (c.in_ok-prepare.ensures.prepared.may_add s stands) c.prepare.new.self c.append.new.self _ c.append.ensures.goes.a
    c.append.ensures.goes.b c.append.ensures.header c.append.ensures.progress c.deref.result.now
    (c.deref.ensures.value ∙ c.in_ok-payload.ensures.payload) c.append.ensures.moments
    stands c.reserve.ensures.same c.in-Err.fault c.in-Err.ensures.gives c.in-Err.ensures.in_doubt
    c.in-Err.ensures.goes.cause)

pub invariant_of-self-in_err-prepare : goal.invariant_of-self-in_err-prepare
invariant_of-self-in_err-prepare g c =
    refused-ready c.self.inside.memory c.prepare.new.self c.self.inside.pair c.self.inside.pair _ _
    c.reserve.ensures.same refl refl refl c.prepare.ensures.stands c.prepare.ensures.version c.self.invariant

pub invariant_of-self-in-Err : goal.invariant_of-self-in-Err
invariant_of-self-in-Err g c =
    refused-ready c.self.inside.memory c.prepare.new.self c.self.inside.pair c.append.new.self _ _
    c.reserve.ensures.same c.append.ensures.progress c.append.ensures.header c.in-Err.ensures.stays
    c.prepare.ensures.stands c.prepare.ensures.version c.self.invariant

pub returns-in-Err-clause-held : goal.returns-in-Err-clause-held
returns-in-Err-clause-held g c = rw (sym c.self.view_is, c.prepare.ensures.pins) (λ slot version. ((λ h. h), λ h. h))

pub invariant_of-self-2 : goal.invariant_of-self-2
invariant_of-self-2 g c =
    let told = c.deref.ensures.value ∙ c.in_ok-payload.ensures.payload in
    commit-ready c.laws.ensures.sound c.laws.ensures.grown c.self.inside.memory c.make.new.self c.self.inside.pair
    c.append.new.self _ _ c.args.change c.deref.result.now told (
      subst (λ (l : List ℕ). 1 ≤ length l) (sym told) (some-payload (change_of c.args.change)),
      subst IsShort (sym c.deref.ensures.value) c.in_ok-payload.ensures.short,
    )
    (c.queue.ensures ∙ (ap (option_map (queued c.in_ok-payload.payload.items)) c.reserve.ensures.same
    ∙ ap (λ q. option_map (queued q) (option_map copy_of c.self.inside.copy)) (sym c.deref.ensures.value)))
    c.append.ensures.progress c.append.ensures.header c.in-Ok.ensures.moved
    (λ s h. let stands = c.prepare.ensures.stands (served s) h in
    (c.in_ok-prepare.ensures.prepared.may_add s stands, c.make.ensures.committed s stands))
    (omega (arith, c.make.ensures.version, c.prepare.ensures.version)) c.make.ensures.few c.self.invariant

pub returns-clause-held : goal.returns-clause-held
returns-clause-held g c =
    let same = c.make.ensures.pins ∙ c.prepare.ensures.pins in
    rw (sym c.self.view_is, same) (λ slot version. (λ h. h, λ h. h))
