use Rattle.chem_shell.proofs.Ended.{causes_of_end}
use Rattle.chem_shell.proofs.Transcripts.{script_of}
use Rattle.chem_shell.proofs.mem.serve_mem.Goals as goal

pub returns-clause-serves : goal.returns-clause-serves
returns-clause-serves g c =
    let ran = c.run_script-ended.ensures in
    let served = ran.serves in
    record {
      calls = served.0;
      run = served.1;
      script = script_of g.S.Source g.K.Sink c.run_script-ended.result c.args.plan.now.page served.0
          served.1.last.history _ _ ran.not_worn c.end_status-end.ensures served.2 ran.ends;
    }

pub returns-clause-causes : goal.returns-clause-causes
returns-clause-causes g c =
    causes_of_end g.S.Source g.K.Sink c.run_script-ended.result _ _ c.end_status-end.ensures
    c.run_script-ended.ensures.ends
