use Rattle.std.proofs.Common.{◌∙◌, subst, sym}
use Rattle.record_versions.specs.Entries.{IsLatest, chain_of}
use Rattle.store_core.specs.Kept.{kept_of}
use Rattle.store_core.specs.Stored.{served}
use Rattle.store_core.proofs.Advances.{why-full, why-memory, why-refused}
use Rattle.store_core.proofs.Commits.{may-add, now-is}
use Rattle.store_core.proofs.Rows.{reserved-stands}
use Rattle.store_core.proofs.store.Store.prepare.Goals as goal

pub returns-in_err-check-clause-why : goal.returns-in_err-check-clause-why
returns-in_err-check-clause-why c =
    rw (sym c.self.view_is)
    (why-refused c.laws.ensures.read c.laws.ensures.states _ c.args.change.now c.in_err-check.field-0.0
    (kept_of c.latest.result) c.from_residual.result c.from_residual.ensures.1
    (subst (λ i. IsLatest c.self.inside.version (chain_of c.self.inside.kept.chains i) (kept_of c.latest.result))
    c.id-id.ensures.id c.latest.ensures) c.in_err-check.ensures)

pub returns-then-self-clause-why : goal.returns-then-self-clause-why
returns-then-self-clause-why c =
    rw (sym c.self.view_is)
    (λ s h. why-full c.laws.ensures.read c.laws.ensures.states _ s c.args.change.now (kept_of c.latest.result) h
    (subst (λ i. IsLatest c.self.inside.version (chain_of c.self.inside.kept.chains i) (kept_of c.latest.result))
    c.id-id.ensures.id c.latest.ensures) c.in_ok-check.ensures c.if-self.true)

pub returns-in_err-reserve-clause-why : goal.returns-in_err-reserve-clause-why
returns-in_err-reserve-clause-why c =
    rw (sym c.self.view_is)
    (why-memory c.laws.ensures.read c.laws.ensures.states _ c.args.change.now (kept_of c.latest.result)
    c.from_residual-in_err-reserve.result c.from_residual-in_err-reserve.ensures.1
    (subst (λ i. IsLatest c.self.inside.version (chain_of c.self.inside.kept.chains i) (kept_of c.latest.result))
    c.id-id.ensures.id c.latest.ensures) c.id-id.ensures.sound c.in_ok-check.ensures c.if-self.false)

pub invariant_of-self : goal.invariant_of-self
invariant_of-self c =
    let was = c.self.invariant in
    (was.0, reserved-stands _ c.reserve.new.self was.0 c.reserve.ensures.entries c.reserve.ensures.chains was.1)

pub returns-in_err-reserve-clause-stands : goal.returns-in_err-reserve-clause-stands
returns-in_err-reserve-clause-stands c =
    rw (sym c.self.view_is)
    (λ s h. reserved-stands _ c.reserve.new.self s c.reserve.ensures.entries c.reserve.ensures.chains h)

pub invariant_of-self-2 : goal.invariant_of-self-2
invariant_of-self-2 c =
    let was = c.self.invariant in
    (was.0, reserved-stands _ c.reserve.new.self was.0 c.reserve.ensures.entries c.reserve.ensures.chains was.1)

pub returns-clause-stands : goal.returns-clause-stands
returns-clause-stands c =
    rw (sym c.self.view_is)
    (λ s h. reserved-stands _ c.reserve.new.self s c.reserve.ensures.entries c.reserve.ensures.chains h)

pub returns-clause-prepared : goal.returns-clause-prepared
returns-clause-prepared c =
    let law = c.laws.ensures in
    let change = c.args.change.now in
    record {
      may_add = λ s h.
          let was = reserved-stands _ c.self.inside.kept (served s) (sym c.reserve.ensures.entries)
          (λ q. sym (c.reserve.ensures.chains q)) h in
          may-add law.states _ s change was c.id-id.ensures.sound
          (now-is law.read law.states _ s change (kept_of c.latest.result) was
          (subst (λ i. IsLatest c.self.inside.version (chain_of c.self.inside.kept.chains i) (kept_of c.latest.result))
          c.id-id.ensures.id c.latest.ensures) ∙ c.in_ok-check.ensures) c.if-self.false;
      room = rw (sym c.id-id.ensures.id, sym c.entry.ensures) c.in_ok-reserve.ensures.ok;
    }
