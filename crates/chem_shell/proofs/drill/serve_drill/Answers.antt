use Rattle.chem_shell.proofs.Drills.{drill_of}
use Rattle.chem_shell.proofs.Ended.{causes_of_end}
use Rattle.chem_shell.proofs.drill.serve_drill.Goals as goal

pub returns-clause-serves : goal.returns-clause-serves
returns-clause-serves g c =
    let ran = c.run_drill-ended.ensures in
    let drilled = ran.drills in
    drill_of c.drills_are_true.ensures g.S.Source g.K.Sink c.run_drill-ended.result c.args.plan.now drilled.0 _ _
    ran.not_worn c.end_status-end.ensures drilled.1 drilled.2 ran.ends

pub returns-clause-causes : goal.returns-clause-causes
returns-clause-causes g c =
    causes_of_end g.S.Source g.K.Sink c.run_drill-ended.result _ _ c.end_status-end.ensures
    c.run_drill-ended.ensures.ends
