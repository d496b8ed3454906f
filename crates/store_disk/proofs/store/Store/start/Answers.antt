use Rattle.std.proofs.Common.{◌<◌, ◌∙◌, ap, arith, refl, Some, subst, sym}
use Rattle.disk_pair.specs.Term.{next_header}
use Rattle.journal_core.specs.declared.header.Header.{Header}
use Rattle.store_disk.specs.OnDisk.{CopyTerm, HasCopy, IsReady, StoreTerm}
use Rattle.store_disk.proofs.Ready.{start-ready}
use Rattle.store_disk.proofs.Refused.{none-left, refused-start}
use Rattle.store_disk.proofs.Starts.{start-call}
use Rattle.store_disk.proofs.store.Store.start.Goals as goal

pub returns-then-header-clause-call : goal.returns-then-header-clause-call
returns-then-header-clause-call g c =
    let none = ap (λ (t : StoreTerm g.row.D.Denot). t.copy) c.self.view_is ∙ c.requires in
    rw (sym c.self.view_is)
    (λ s h. none-left g.D.Disk.model g.met.D.Disk.only_now c.laws.ensures.sound c.laws.ensures.heads _
    c.laws.ensures.leaves s h none (ap (λ (k : Header). k.generation) (sym c.header.ensures) ∙ c.if-header.true))

pub invariant_of-self : goal.invariant_of-self
invariant_of-self g c =
    let none = ap (λ (t : StoreTerm g.row.D.Denot). t.copy) c.self.view_is ∙ c.requires in
    let old = c.self.inside.pair in
    let ready = subst (IsReady c.self.inside.memory old) none c.self.invariant in
    let version = c.version-version.result in
    let left = c.states-left.result in
    subst (λ (k : CopyTerm). IsReady c.self.inside.memory c.start_copy.new.self (Some k)) (sym c.new.ensures)
    (start-ready c.laws.ensures.sound c.self.inside.memory old c.start_copy.new.self version left
    (next_header old.journal.header version left) c.version-version.ensures c.states-left.ensures.count
    c.states-left.ensures.within refl c.start_copy.ensures.current.journal c.in-Ok.ensures.progress ready)

pub returns-in-Ok-clause-call : goal.returns-in-Ok-clause-call
returns-in-Ok-clause-call g c =
    let none = ap (λ (t : StoreTerm g.row.D.Denot). t.copy) c.self.view_is ∙ c.requires in
    let low : c.header.result.generation < 4294967295 = omega (arith, c.if-header.false, c.header.type_inv) in
    let same = ap (λ (k : Header). k.generation) c.header.ensures in
    rw (sym c.self.view_is, c.new.ensures)
    (λ s h.
    let at = ap (λ (k : Header). k.generation) h.header in
    start-call g.D.Disk.model c.laws.ensures.sound c.laws.ensures.heads _ s h c.start_copy.new.self
    c.start_copy.ensures.goes.a c.start_copy.ensures.goes.b c.version-version.result c.states-left.result
    (c.version-version.ensures ∙ h.memory.stands.version) (c.states-left.ensures.count s h.memory.stands)
    (subst (HasCopy s.history s.copy) none h.copy) (omega (arith, low, same, at)) c.start_copy.ensures.current.journal
    c.in-Ok.ensures.gives c.in-Ok.ensures.progress c.start_copy.ensures.current.moments)

pub returns-in-Err-clause-call : goal.returns-in-Err-clause-call
returns-in-Err-clause-call g c =
    let none = ap (λ (t : StoreTerm g.row.D.Denot). t.copy) c.self.view_is ∙ c.requires in
    let low : c.header.result.generation < 4294967295 = omega (arith, c.if-header.false, c.header.type_inv) in
    let same = ap (λ (k : Header). k.generation) c.header.ensures in
    rw (sym c.self.view_is, none, c.copy_fault.ensures)
    (λ s h.
    let at = ap (λ (k : Header). k.generation) h.header in
    refused-start g.D.Disk.model c.laws.ensures.sound c.laws.ensures.heads _ s h h.copy c.start_copy.new.self
    c.start_copy.ensures.goes.a c.start_copy.ensures.goes.b c.start_copy.ensures.current.journal c.in-Err.fault _
    (omega (arith, low, same, at)) c.in-Err.ensures.gives c.in-Err.ensures.goes.cause
    c.start_copy.ensures.current.moments)
