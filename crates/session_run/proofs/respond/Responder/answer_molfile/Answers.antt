use Rattle.std.proofs.Common.{[], arith, inl, refl}
use Rattle.mol_finish.specs.declared.fault.TextFault.TheVariants as faults
use Rattle.molfile_read.specs.declared.fault.MolfileFault.TheVariants.{Limit}
use Rattle.shell_lang.specs.Reply as line
use Rattle.shell_lang.specs.Reply.{reply_of}
use Rattle.shell_lang.specs.declared.reply.Refusal.TheVariants as refusals
use Rattle.session_acts.specs.Acts.{Refused}
use Rattle.session_run.specs.Opened.{opened}
use Rattle.session_run.specs.Standings.{standing_of}
use Rattle.session_run.specs.Walks.{cursors_of}
use Rattle.session_run.proofs.Joined.{uses-none}
use Rattle.session_run.proofs.Lines.{said}
use Rattle.session_run.proofs.Requested.{long_molfile, molfile_allows, molfile_refused, untold_answer, whole_line}
use Rattle.session_run.proofs.Standing.{responds_as, rests}
use Rattle.session_run.proofs.respond.Responder.answer_molfile.Goals as goal

pub returns-in-Long-clause-answered : goal.returns-in-Long-clause-answered
returns-in-Long-clause-answered g c request any next =
    let is = rw c.in-Long.is at next in
    said [] (line.Refused refusals.Long) c.say.result (uses-none g.met.S.Service.stays c.args.service.now)
    (rests (Refused refusals.Long) (inl (long_molfile request is.0 is.1 is.2 is.4.0, refl))) c.say.ensures

pub returns-in-Big-clause-answered : goal.returns-in-Big-clause-answered
returns-in-Big-clause-answered g c request any next =
    let is = rw c.in-Big.is at next in
    said [] (reply_of c.line_without_text.result) c.say-in-Big.result
    (uses-none g.met.S.Service.stays c.args.service.now)
    (untold_answer request is.0 is.1 (whole_line request is.0 is.1 is.4.0) (reply_of c.line_without_text.result)
    c.args.read is.3 (faults.Molfile Limit) (inl (omega (arith, is.4.1))) c.line_without_text.ensures)
    c.say-in-Big.ensures

pub returns-in-Lost-clause-answered : goal.returns-in-Lost-clause-answered
returns-in-Lost-clause-answered g c request any next =
    let is = rw c.in-Lost.is at next in
    said [] (reply_of c.line_without_text-in-Lost.result) c.say-in-Lost.result
    (uses-none g.met.S.Service.stays c.args.service.now)
    (untold_answer request is.0 is.1 (whole_line request is.0 is.1 is.4.0)
    (reply_of c.line_without_text-in-Lost.result) c.args.read is.3 faults.NoMemory tt
    c.line_without_text-in-Lost.ensures) c.say-in-Lost.ensures

pub returns-in-Ok-clause-answered : goal.returns-in-Ok-clause-answered
returns-in-Ok-clause-answered g c request any next =
    responds_as (molfile_allows (standing_of c.args.self.now) request c.in-Ok.change c.text_change-change.result c.args.self.now.molfile.items any c.args.self.now.records (rw (c.in-Text.is, c.in-Ok.is) at next)
    c.text_change-change.ensures) (rw c.deref.ensures.value at (c.change_text.ensures c.args.self.now.cursors.settings.page (cursors_of (opened c.args.self.now.cursors))))

pub returns-in-Err-clause-answered : goal.returns-in-Err-clause-answered
returns-in-Err-clause-answered g c request any next =
    said [] (line.Refused (refusals.Line c.in-Err.refusal)) c.say-in-Err.result
    (uses-none g.met.S.Service.stays c.args.service.now)
    (rests (Refused (refusals.Line c.in-Err.refusal))
    (molfile_refused (standing_of c.args.self.now) request c.in-Err.refusal c.args.self.now.molfile.items any c.args.self.now.records (rw (c.in-Text.is, c.in-Err.is) at next))) c.say-in-Err.ensures
