use Rattle.std.proofs.Common.{Err, IfSome, Option, option_map, Some, subst, sym}
use Rattle.disk_pair.specs.Term.{progress_of}
use Rattle.store_core.specs.States.{GoOn}
use Rattle.store_disk.specs.Copies.{copy_of}
use Rattle.store_disk.specs.OnDisk.{HasCopy, HasHeader, IsReady, Lacks}
use Rattle.store_disk.specs.declared.copy.Copying.{Copying}
use Rattle.store_disk.proofs.NextItem.{dropped}
use Rattle.store_disk.proofs.Ready.{followed, item-ready}
use Rattle.store_disk.proofs.Takes.{given-up, taken, untaken}
use Rattle.store_disk.proofs.compact.put_item.Goals as goal

pub put_next-requires-clause-states : goal.put_next-requires-clause-states
put_next-requires-clause-states g c =
    subst (λ (o : Option Copying). IfSome o (λ k. GoOn k.version k.from c.args.states.now)) c.in-Some.is
    c.requires.states

pub put_next-requires-clause-follows : goal.put_next-requires-clause-follows
put_next-requires-clause-follows g c =
    let m = c.args.states.now.store in
    let old = c.args.pair.now in
    followed m old (copy_of c.in-Some.running)
    (subst (λ (o : Option Copying). IsReady m old (option_map copy_of o)) c.in-Some.is c.requires.ready)

pub returns-in-Ok-clause-ready : goal.returns-in-Ok-clause-ready
returns-in-Ok-clause-ready g c =
    let m = c.args.states.now.store in
    let old = c.args.pair.now in
    item-ready c.laws.ensures.sound m old c.put_next.new.pair (copy_of c.in-Some.running) (copy_of c.put_next.new.copy)
    c.put_next.ensures.current.journal (λ s serving l. (c.in-Ok.ensures.item s serving l).lacks)
    c.in-Ok.ensures.goes_on.follows
    (subst (λ (o : Option Copying). IsReady m old (option_map copy_of o)) c.in-Some.is c.requires.ready)

pub returns-in-Ok-clause-gives : goal.returns-in-Ok-clause-gives
returns-in-Ok-clause-gives g c =
    λ s h.
    let has = subst (λ (o : Option Copying). HasCopy s.history s.copy (option_map copy_of o)) c.in-Some.is h.copy in
    let header = subst (λ (o : Option Copying).
    HasHeader s.generation s.history (option_map copy_of o) (progress_of c.args.pair.now.other)) c.in-Some.is
    h.copied in
    let item = c.in-Ok.ensures.item s h.memory has in
    taken g.D.Disk.model c.laws.ensures.sound c.laws.ensures.heads _ s h c.put_next.new.pair c.put_next.ensures.goes.a
    c.put_next.ensures.goes.b c.put_next.ensures.current.journal (copy_of c.in-Some.running) has header
    (copy_of c.put_next.new.copy) item.lacks (c.in-Ok.ensures.goes_on.header s header) item.gives

pub returns-in-Err-DiskFault-clause-gives : goal.returns-in-Err-DiskFault-clause-gives
returns-in-Err-DiskFault-clause-gives g c =
    let fault = c.in-Err-DiskFault in
    let item = rw fault.field-0-is at fault.ensures.item in
    λ s h.
    let has = subst (λ (o : Option Copying). HasCopy s.history s.copy (option_map copy_of o)) c.in-Some.is h.copy in
    let header = subst (λ (o : Option Copying).
    HasHeader s.generation s.history (option_map copy_of o) (progress_of c.args.pair.now.other)) c.in-Some.is
    h.copied in
    given-up g.D.Disk.model c.laws.ensures.sound c.laws.ensures.heads _ s h c.put_next.new.pair
    c.put_next.ensures.goes.a c.put_next.ensures.goes.b c.put_next.ensures.current.journal
    (copy_of c.in-Some.running) has header
    (rw fault.field-0-is at fault.ensures.goes.cause)
    (λ it. dropped g.D.Disk.model c.args.pair.now c.put_next.new.pair (Err fault.field-0) s (copy_of c.in-Some.running)
    has fault.doubt _ ((item s h.memory has).gives it))

pub returns-in-Err-NoMemory-clause-gives : goal.returns-in-Err-NoMemory-clause-gives
returns-in-Err-NoMemory-clause-gives g c =
    let fault = c.in-Err-NoMemory in
    let item = rw fault.field-0-is at fault.ensures.item in
    let progress = rw fault.field-0-is at fault.ensures.goes_on.progress in
    let stays = fault.ensures.goes_on.stays in
    λ s h.
    let has = subst (λ (o : Option Copying). HasCopy s.history s.copy (option_map copy_of o)) c.in-Some.is h.copy in
    let header = subst (λ (o : Option Copying).
    HasHeader s.generation s.history (option_map copy_of o) (progress_of c.args.pair.now.other)) c.in-Some.is
    h.copied in
    untaken g.D.Disk.model c.laws.ensures.sound c.laws.ensures.heads _ s h c.put_next.new.pair
    c.put_next.ensures.goes.a c.put_next.ensures.goes.b c.put_next.ensures.current.journal
    (copy_of c.in-Some.running) has header
    (Some (copy_of c.put_next.new.copy))
    (subst (λ (k : Copying). Lacks s.history s.copy (copy_of k)) (sym stays) has)
    (subst (λ (k : Copying).
    HasHeader s.generation s.history (Some (copy_of k)) (progress_of c.put_next.new.pair.other)) (sym stays)
    (subst (HasHeader s.generation s.history (Some (copy_of c.in-Some.running))) (sym progress) header))
    (item s h.memory has).gives
