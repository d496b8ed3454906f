use Rattle.std.proofs.Common.{◌⊎◌, ap, subst, sym}
use Rattle.chem_shell.specs.Contents.{disks_of}
use Rattle.chem_shell.specs.Loading.{HasCauses}
use Rattle.chem_shell.specs.OnDisks.{IsRefused, RunsOn}
use Rattle.chem_shell.proofs.OneEnd.{one_zip, run_done}
use Rattle.chem_shell.proofs.top.run.Goals as goal

pub returns : goal.returns
returns g c =
    let d = g.D.Disk.model in
    let s = g.S.Source in
    let k = g.K.Sink in
    let plan = c.args.plan.now in
    let ends = c.args.ends.items in
    let old = c.index_mut.result.now in
    let new = c.serve_run-disks.new.end in
    let r = c.served.result in
    let is = ap (λ v. v.items) c.served.ensures.ends in
    let back = sym c.served.ensures.disks in
    run_done d s.left s.faults k.written k.faults plan c.args.disks ends old new r c.requires.one_end
    c.index_mut.ensures.value is c.requires.command
    (one_zip d s.left s.faults k.written k.faults plan c.args.disks ends old new r c.requires.one_end
    c.index_mut.ensures.value is
    (λ x y. IsRefused d c.args.disks (disks_of r) x y ⊎ RunsOn d s.left k.written plan c.args.disks (disks_of r) x y)
    (subst (λ now. IsRefused d c.args.disks now old new ⊎ RunsOn d s.left k.written plan c.args.disks now old new) back
    c.serve_run-disks.ensures.serves))
    c.serve_run-disks.ensures.ends
    (subst (λ now. HasCauses d c.args.disks now new.status r.place) back
    (subst (HasCauses d c.args.disks c.serve_run-disks.result.0 new.status) (sym c.served.ensures.place)
    c.serve_run-disks.ensures.causes))
    c.serve_run-disks.ensures.status c.served.ensures.status
