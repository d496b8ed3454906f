use Rattle.std.proofs.Common.{ap}
use Rattle.chem_shell.specs.Ends.{ServesBulk}
use Rattle.chem_shell.specs.declared.request.Verb.TheVariants.{Bulk}
use Rattle.chem_shell.proofs.OneEnd.{end_of_sink, one_done, one_zip, sink_causes}
use Rattle.chem_shell.proofs.top.bulk.Goals as goal

pub returns : goal.returns
returns g c =
    let d = g.D.Disk.model in
    let s = g.S.Source in
    let k = g.K.Sink in
    let plan = c.args.plan.now in
    let ends = c.args.ends.items in
    let old = c.index_mut.result.now in
    let r = c.served.result in
    let new = c.serve_bulk.new.end in
    let is = ap (λ v. v.items) c.served.ensures.ends in
    one_done d s.left s.faults k.written k.faults plan c.args.disks ends old new r c.requires.one_end
    c.index_mut.ensures.value is Bulk c.requires.command (
      c.served.ensures.disks,
      one_zip d s.left s.faults k.written k.faults plan c.args.disks ends old new r c.requires.one_end
          c.index_mut.ensures.value is (ServesBulk plan k.written) c.serve_bulk.ensures.serves,
    )
    (sink_causes s.left s.faults k.faults old new c.serve_bulk.ensures.serves.status c.serve_bulk.ensures.sink_fault)
    (end_of_sink new.status c.serve_bulk.ensures.serves.status)
    c.served.ensures.status c.served.ensures.place
