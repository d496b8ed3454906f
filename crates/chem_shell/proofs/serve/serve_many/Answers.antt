use Rattle.chem_shell.proofs.Done.{causes_of, load_of, refused_by}
use Rattle.chem_shell.proofs.serve.serve_many.Goals as goal

pub returns-in-Ok : goal.returns-in-Ok
returns-in-Ok g c = c.serve_loaded.ensures c.args.disks c.in-Ok.ensures.narrows_a c.in-Ok.ensures.narrows_b

pub returns-in-Err : goal.returns-in-Err
returns-in-Err g c =
    let status = c.refusal-status.result in
    refused_by g.D.Disk.model g.S.Source.left g.S.Source.faults g.K.Sink.written g.K.Sink.faults c.args.plan.now
    c.args.disks c.in-Err.disks c.args.ends.items c.unserved.result status.0 status.1 c.requires.verb
    (load_of c.in-Err.fault status.0 status.1 c.refusal-status.ensures) c.in-Err.ensures.narrows_a
    c.in-Err.ensures.narrows_b
    (causes_of g.D.Disk.model c.args.disks c.in-Err.disks c.in-Err.fault status.0 status.1 c.refusal-status.ensures
    c.in-Err.ensures.not_a_store c.in-Err.ensures.damaged c.in-Err.ensures.cause)
    c.unserved.ensures.status c.unserved.ensures.place c.unserved.ensures.disks c.unserved.ensures.ends

pub serve_loaded-requires-clause-standing : goal.serve_loaded-requires-clause-standing
serve_loaded-requires-clause-standing g c κs within =
    let o = c.in-Ok.ensures.opened in
    (o.0, o.1, o.2)
