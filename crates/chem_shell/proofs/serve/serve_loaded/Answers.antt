use Rattle.std.proofs.Common.{◌≡◌, ◌∙◌, Bool, OnErr, OnOk, map, refl, ap, sym, subst, true, inr}
use Rattle.disk_pair.specs.Term.{Paired, disk_a, disk_b}
use Rattle.journal_core.specs.Looks.{Narrows}
use Rattle.session_run.specs.Servable.{IsServable}
use Rattle.session_run.specs.declared.settings.Settings.{Settings}
use Rattle.serve_ends.specs.Serving.{Serving}
use Rattle.store_disk.specs.OnDisk.{StoreTerm}
use Rattle.hall.specs.Passes.{Begins, Ends}
use Rattle.hall.specs.declared.hall.HallPass.{HallPass}
use Rattle.chem_shell.specs.Ends.{with_status}
use Rattle.chem_shell.specs.OnDisks.{ServesOn}
use Rattle.chem_shell.specs.Words.{settings_of}
use Rattle.chem_shell.specs.declared.request.Verb.TheVariants.{Serve}
use Rattle.chem_shell.proofs.Desks.{end_causes, serves_on, unserved_pair}
use Rattle.chem_shell.proofs.Done.{memory_causes, refused_by, served_done}
use Rattle.chem_shell.proofs.serve.serve_loaded.Goals as goal

pub start-requires : goal.start-requires
start-requires g c =
    let o = c.requires.standing in
    record {
      stands = (o.0, o.1, record { pins = o.2.pins; opened = λ _. (c.args.plan.now.commits, o.2) });
    }

pub serve_ends-ends-requires-clause-servable : goal.serve_ends-ends-requires-clause-servable
serve_ends-ends-requires-clause-servable g c _ _ = subst IsServable (sym c.settings.ensures) c.requires.plan.servable

pub returns-in-Ok-served : goal.returns-in-Ok-served
returns-in-Ok-served g c = λ disks read_a read_b.
    let d = g.D.Disk.model in
    let new = c.serve_ends-ends.new.pass in
    let r = c.served.result in
    let given : Serving g.S.Source g.K.Sink c.settings.result c.in-Ok.pass new c.args.ends.items
    c.serve_ends-ends.result.0.items =
    subst (λ x. OnOk x (Serving g.S.Source g.K.Sink c.settings.result c.in-Ok.pass new c.args.ends.items
    c.serve_ends-ends.result.0.items)) c.in-Ok-served.is c.serve_ends-ends.ensures.served in
    let serving : Serving g.S.Source g.K.Sink (settings_of c.args.plan.now) c.in-Ok.pass new c.args.ends.items
    r.ends.items =
    subst (λ v. Serving g.S.Source g.K.Sink (settings_of c.args.plan.now) c.in-Ok.pass new c.args.ends.items v.items)
    (sym c.served.ensures.ends)
    (subst (λ (settings : Settings). Serving g.S.Source g.K.Sink settings c.in-Ok.pass new c.args.ends.items
    c.serve_ends-ends.result.0.items) c.settings.ensures given) in
    let o = c.requires.standing in
    let begins : Begins d c.args.store true c.in-Ok.pass =
    subst (λ (o : Bool). Begins d c.args.store o c.in-Ok.pass) c.of.ensures c.in-Ok.ensures.begins in
    let here = g.met.D.Disk g.world.𝓛 g.world.𝓜 g.world.𝓡 ((λ s x. x), (λ x. x), (λ x. x), λ x. x) in
    let on = serves_on d g.S.Source g.K.Sink c.replies_tell.ensures.commits c.runs_stay_sound.ensures
    c.rebases_keep.ensures.grown c.rebases_keep.ensures.stays c.services_are_true.ensures
    here.content_is_image c.args.plan.now disks c.args.store c.a_standing_store_opens.ensures o.0 o.1 o.2 read_a
    read_b c.in-Ok.pass begins c.close-store.result c.a_standing_store_opens-in-Ok.ensures new
    c.into_disks-disks.result c.args.ends.items r.ends.items c.close-store.ensures serving c.into_disks-disks.ensures.a
    c.into_disks-disks.ensures.b in
    let causes = end_causes g.S.Source g.K.Sink c.args.plan.now c.args.ends.items r.ends.items serving.count
    (λ i d less. (_, serving.each i d less)) in
    served_done g.D.Disk.model g.S.Source.left g.S.Source.faults g.K.Sink.written g.K.Sink.faults c.args.plan.now Serve
    disks c.args.ends.items r c.requires.verb
    (inr (subst (λ x. ServesOn d g.S.Source.left g.K.Sink.written c.args.plan.now disks x c.args.ends.items
    r.ends.items)
    (sym c.served.ensures.disks) on)) causes.0 causes.1
    c.served.ensures.status c.served.ensures.place

pub returns-in-Err-served : goal.returns-in-Err-served
returns-in-Err-served g c = λ disks read_a read_b.
    let d = g.D.Disk.model in
    let kept : (c.serve_ends-ends.new.pass ≡ c.in-Ok.pass) × (c.serve_ends-ends.result.0 ≡ c.args.ends) =
    subst (λ x. OnErr x ((c.serve_ends-ends.new.pass ≡ c.in-Ok.pass) × (c.serve_ends-ends.result.0 ≡ c.args.ends)))
    c.in-Err-served.is c.serve_ends-ends.ensures.memory in
    let closed = subst (λ (p : HallPass _). Ends d p c.close-store.result) kept.0 c.close-store.ensures in
    let begins : Begins d c.args.store true c.in-Ok.pass =
    subst (λ (o : Bool). Begins d c.args.store o c.in-Ok.pass) c.of.ensures c.in-Ok.ensures.begins in
    let same = unserved_pair d c.args.store c.in-Ok.pass begins c.close-store.result closed in
    let back = c.into_disks-disks.ensures in
    refused_by g.D.Disk.model g.S.Source.left g.S.Source.faults g.K.Sink.written g.K.Sink.faults c.args.plan.now
    disks c.into_disks-disks.result c.args.ends.items c.unserved.result 8 0 c.requires.verb (inr (inr (inr refl)))
    (subst (Narrows d disks.a) (sym (back.a ∙ ap (λ (p : Paired _). disk_a p) same)) read_a)
    (subst (Narrows d disks.b) (sym (back.b ∙ ap (λ (p : Paired _). disk_b p) same)) read_b)
    (memory_causes d disks c.into_disks-disks.result)
    c.unserved.ensures.status c.unserved.ensures.place c.unserved.ensures.disks
    (subst (λ v. c.unserved.result.ends.items ≡ map (with_status 8) v.items) kept.1 c.unserved.ensures.ends)

pub returns-in-Err : goal.returns-in-Err
returns-in-Err g c = λ disks read_a read_b.
    let d = g.D.Disk.model in
    let same = c.in-Err.ensures.back in
    let back = c.into_disks.ensures in
    refused_by g.D.Disk.model g.S.Source.left g.S.Source.faults g.K.Sink.written g.K.Sink.faults c.args.plan.now
    disks c.into_disks.result c.args.ends.items c.unserved-in-Err.result 8 0 c.requires.verb (inr (inr (inr refl)))
    (subst (Narrows d disks.a) (sym (back.a ∙ ap (λ (x : StoreTerm _). disk_a x.pair) same)) read_a)
    (subst (Narrows d disks.b) (sym (back.b ∙ ap (λ (x : StoreTerm _). disk_b x.pair) same)) read_b)
    (memory_causes d disks c.into_disks.result)
    c.unserved-in-Err.ensures.status c.unserved-in-Err.ensures.place c.unserved-in-Err.ensures.disks
    c.unserved-in-Err.ensures.ends
