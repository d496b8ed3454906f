use Rattle.session_run.specs.Standings.{standing_of}
use Rattle.drill_run.proofs.Answering.{refused-err, refused-ok, takes-lines}
use Rattle.drill_run.proofs.sessions.answer_alone.Goals as goal

pub returns-in-Some-clause-ok : goal.returns-in-Some-clause-ok
returns-in-Some-clause-ok g c = λ size e.
    refused-ok size c.args.line.now c.args.world.now (standing_of c.args.responder.now)
    (standing_of c.refuse_lines.new.responder)
    (takes-lines c.args.line.now c.in-Some.field-0 c.in-Some.ensures.some) c.refuse_lines.ensures.kept
    c.refuse_lines.result c.refuse_lines.new.responder.out.items c.refuse_lines.ensures.ok

pub returns-in-Some-clause-err : goal.returns-in-Some-clause-err
returns-in-Some-clause-err g c = λ size e.
    refused-err size c.args.line.now c.args.world.now (standing_of c.args.responder.now)
    (standing_of c.refuse_lines.new.responder)
    (takes-lines c.args.line.now c.in-Some.field-0 c.in-Some.ensures.some) c.refuse_lines.ensures.kept
    c.refuse_lines.result

pub returns-in-None-clause-ok : goal.returns-in-None-clause-ok
returns-in-None-clause-ok g c = λ size e. rw e c.answer_script_line.ensures.ok

pub returns-in-None-clause-err : goal.returns-in-None-clause-err
returns-in-None-clause-err g c = λ size e. rw e c.answer_script_line.ensures.err
