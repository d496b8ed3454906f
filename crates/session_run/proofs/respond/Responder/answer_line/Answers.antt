use Rattle.std.proofs.Common.{[], Err, Ok, refl}
use Rattle.io_edge.specs.Lines.{Whole}
use Rattle.shell_lang.specs.CommandView.{command_of}
use Rattle.shell_lang.specs.Reply as line
use Rattle.shell_lang.specs.declared.reply.Refusal.TheVariants as refusals
use Rattle.session_acts.specs.Acts.{Refused, Say}
use Rattle.session_acts.specs.Requests.{Request}
use Rattle.session_run.specs.Standings.{standing_of}
use Rattle.session_run.proofs.Joined.{uses-none}
use Rattle.session_run.proofs.Lines.{said}
use Rattle.session_run.proofs.Requested.{behind_nothing, line_allows}
use Rattle.session_run.proofs.Standing.{responds_as, rests}
use Rattle.session_run.proofs.respond.Responder.answer_line.Goals as goal

pub execute-requires-clause-ready : goal.execute-requires-clause-ready
execute-requires-clause-ready g c _ _ = record { fit = c.requires.ready.fit; held = c.requires.ready.held }

pub execute-requires-clause-line : goal.execute-requires-clause-line
execute-requires-clause-line g c _ _ = (c.args.line.now, c.in-Ok.ensures, c.requires.alone)

pub returns-in-Ok-clause-answered : goal.returns-in-Ok-clause-answered
returns-in-Ok-clause-answered g c =
    let request : Request = record { line = Whole c.args.line.now; more = [] } in
    behind_nothing c.clear.ensures.items (responds_as (line_allows (standing_of c.args.self.now) request c.args.line.now
    (Ok (command_of c.in-Ok.command)) (refl, c.requires.alone) c.in-Ok.ensures) (c.execute.ensures.answered []))

pub returns-in-Err-clause-answered : goal.returns-in-Err-clause-answered
returns-in-Err-clause-answered g c =
    let request : Request = record { line = Whole c.args.line.now; more = [] } in
    behind_nothing c.clear.ensures.items (said [] (line.Refused (refusals.Line c.in-Err.refusal)) c.say.result
    (uses-none g.met.S.Service.stays c.args.service.now)
    (rests (Refused (refusals.Line c.in-Err.refusal)) (line_allows (standing_of c.args.self.now) request c.args.line.now (Err c.in-Err.refusal)
    (refl, c.requires.alone) c.in-Err.ensures (Say (Refused (refusals.Line c.in-Err.refusal))) refl)) c.say.ensures)
