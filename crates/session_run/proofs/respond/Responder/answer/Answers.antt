use Rattle.std.proofs.Common.{[], inl, refl}
use Rattle.shell_lang.specs.Reply as line
use Rattle.shell_lang.specs.declared.reply.Refusal.TheVariants as refusals
use Rattle.session_acts.specs.Acts.{Refused}
use Rattle.session_run.proofs.Joined.{uses-none}
use Rattle.session_run.proofs.Lines.{said}
use Rattle.session_run.proofs.Requested.{behind_nothing}
use Rattle.session_run.proofs.Standing.{rests}
use Rattle.session_run.proofs.respond.Responder.answer.Goals as goal

pub answer_line-requires-clause-ready : goal.answer_line-requires-clause-ready
answer_line-requires-clause-ready g c _ _ = record { fit = c.requires.ready.fit; held = c.requires.ready.held }

pub answer_line-requires-clause-alone : goal.answer_line-requires-clause-alone
answer_line-requires-clause-alone g c _ _ = let is = rw c.in-Line.is at c.requires.request.1 in is.1

pub answer_molfile-requires : goal.answer_molfile-requires
answer_molfile-requires g c =
    let is = rw c.in-WithMolfile.is at c.requires.request.1 in
    (is.0, is.2, is.3)

pub returns-in-End-clause-answered : goal.returns-in-End-clause-answered
returns-in-End-clause-answered g c request next = absurd (rw c.in-End.is at next)

pub returns-in-Long-clause-answered : goal.returns-in-Long-clause-answered
returns-in-Long-clause-answered g c request next =
    behind_nothing c.clear.ensures.items (said [] (line.Refused refusals.Long) c.say.result
    (uses-none g.met.S.Service.stays c.args.service.now)
    (rests (Refused refusals.Long) (inl (rw c.in-Long.is at next, refl))) c.say.ensures)

pub returns-in-Line-clause-answered : goal.returns-in-Line-clause-answered
returns-in-Line-clause-answered g c request next =
    let is = rw c.in-Line.is at next in rw is.0 c.answer_line.ensures.answered

pub returns-in-WithMolfile-clause-answered : goal.returns-in-WithMolfile-clause-answered
returns-in-WithMolfile-clause-answered g c request next =
    behind_nothing c.clear.ensures.items
    (c.answer_molfile.ensures.answered request c.args.line.now (rw c.in-WithMolfile.is at next))

pub answer_records-requires-clause-request : goal.answer_records-requires-clause-request
answer_records-requires-clause-request g c _ _ = (c.requires.request.0, rw c.in-WithRecords.is at c.requires.request.1)

pub returns-in-WithRecords-clause-answered : goal.returns-in-WithRecords-clause-answered
returns-in-WithRecords-clause-answered g c request next =
    behind_nothing c.clear.ensures.items
    (c.answer_records.ensures.answered request (rw c.in-WithRecords.is at next))
