use Rattle.std.proofs.Common.{ap}
use Rattle.chem_shell.specs.Drills.{ServesDrill}
use Rattle.chem_shell.specs.declared.request.Verb.TheVariants.{Drill}
use Rattle.chem_shell.proofs.OneEnd.{one_done, one_zip}
use Rattle.chem_shell.proofs.top.drill.Goals as goal

pub returns : goal.returns
returns g c =
    let d = g.D.Disk.model in
    let s = g.S.Source in
    let k = g.K.Sink in
    let plan = c.args.plan.now in
    let ends = c.args.ends.items in
    let old = c.index_mut.result.now in
    let r = c.served.result in
    let new = c.serve_drill.new.end in
    let is = ap (λ v. v.items) c.served.ensures.ends in
    one_done d s.left s.faults k.written k.faults plan c.args.disks ends old new r c.requires.one_end
    c.index_mut.ensures.value is Drill c.requires.command (
      c.served.ensures.disks,
      one_zip d s.left s.faults k.written k.faults plan c.args.disks ends old new r c.requires.one_end
          c.index_mut.ensures.value is (ServesDrill plan s.left k.written) c.serve_drill.ensures.serves,
    )
    c.serve_drill.ensures.causes c.serve_drill.ensures.serves.status
    c.served.ensures.status c.served.ensures.place
