use Rattle.std.proofs.Common.{◌≡◌, ap, IsSomeAnd, option_map, Some, subst, sym}
use Rattle.journal_core.specs.declared.header.Header.{Header}
use Rattle.store_disk.specs.Copies.{copy_of}
use Rattle.store_disk.specs.Items.{left}
use Rattle.store_disk.specs.OnDisk.{CopyTerm, HasHeader, StoreTerm}
use Rattle.store_disk.proofs.Finishes.{faulted-finish, finished, the-copy, unfinished}
use Rattle.store_disk.proofs.store.Store.finish.Goals as goal

pub returns-in-Ok-clause-call : goal.returns-in-Ok-clause-call
returns-in-Ok-clause-call g c =
    let x = the-copy {P = λ (k : CopyTerm). left k ≡ 0} (option_map copy_of c.self.inside.copy)
    (subst (λ (t : StoreTerm g.row.D.Denot). IsSomeAnd t.copy (λ k. left k ≡ 0)) (sym c.self.view_is) c.requires) in
    rw (sym c.self.view_is, x.1)
    (λ s h. finished g.D.Disk.model c.laws.ensures.sound c.laws.ensures.heads _ s h x.0 h.copy x.2 c.finish.new.self
    c.finish.ensures.goes.a c.finish.ensures.goes.b c.finish.ensures.moments c.header-generation.result.generation
    (ap (λ (k : Header). k.generation) c.header-generation.ensures)
    (subst (HasHeader s.generation s.history (Some x.0)) c.in-Ok.ensures.moved h.copied) c.in-Ok.ensures.settled
    c.in-Ok.ensures.gives)

pub returns-in-Err-DiskFault-clause-call : goal.returns-in-Err-DiskFault-clause-call
returns-in-Err-DiskFault-clause-call g c =
    let x = the-copy {P = λ (k : CopyTerm). left k ≡ 0} (option_map copy_of c.self.inside.copy)
    (subst (λ (t : StoreTerm g.row.D.Denot). IsSomeAnd t.copy (λ k. left k ≡ 0)) (sym c.self.view_is) c.requires) in
    let fault = c.in-Err-DiskFault in
    rw (sym c.self.view_is, x.1)
    (λ s h. faulted-finish g.D.Disk.model c.laws.ensures.sound c.laws.ensures.heads _ s h x.0 h.copy x.2
    c.finish.new.self c.finish.ensures.goes.a c.finish.ensures.goes.b c.finish.ensures.moments fault.ensures.stays
    fault.doubt h.copied (rw fault.field-0-is at fault.ensures.doubtful)
    (rw fault.field-0-is at fault.ensures.goes.cause) (rw fault.field-0-is at fault.ensures.gives))

pub returns-in-Err-NoMemory-clause-call : goal.returns-in-Err-NoMemory-clause-call
returns-in-Err-NoMemory-clause-call g c =
    let x = the-copy {P = λ (k : CopyTerm). left k ≡ 0} (option_map copy_of c.self.inside.copy)
    (subst (λ (t : StoreTerm g.row.D.Denot). IsSomeAnd t.copy (λ k. left k ≡ 0)) (sym c.self.view_is) c.requires) in
    let fault = c.in-Err-NoMemory in
    rw (sym c.self.view_is, x.1)
    (λ s h. unfinished g.D.Disk.model c.laws.ensures.sound c.laws.ensures.heads _ s h x.0 h.copy x.2
    c.finish.new.self c.finish.ensures.goes.a c.finish.ensures.goes.b c.finish.ensures.moments fault.ensures.stays
    (rw fault.field-0-is at fault.ensures.progress) h.copied (rw fault.field-0-is at fault.ensures.gives))
