use Rattle.std.proofs.Common.{[]}
use Rattle.shell_lang.specs.Reply as line
use Rattle.shell_lang.specs.declared.reply.Refusal.TheVariants as refusals
use Rattle.session_acts.specs.Acts.{Refused}
use Rattle.session_acts.specs.Records.{records_in}
use Rattle.session_run.specs.Opened.{opened}
use Rattle.session_run.specs.Standings.{standing_of}
use Rattle.session_run.specs.Walks.{cursors_of}
use Rattle.session_run.proofs.Joined.{uses-none}
use Rattle.session_run.proofs.Lines.{said}
use Rattle.session_run.proofs.Requested.{records_allow, records_length, records_refused}
use Rattle.session_run.proofs.Standing.{responds_as, rests}
use Rattle.session_run.proofs.respond.Responder.register_records.Goals as goal

pub register_sd-requires-clause-ids : goal.register_sd-requires-clause-ids
register_sd-requires-clause-ids g c _ _ = let n = rw c.in-Ok.is at c.requires.1 in n.4.1

pub register_sd-requires-clause-taken : goal.register_sd-requires-clause-taken
register_sd-requires-clause-taken g c _ _ =
    let n = rw c.in-Ok.is at c.requires.1 in
    (records_in c.args.count c.requires.0.more, records_length c.args.count c.requires.0.more, n.5)

pub returns-in-Ok-clause-answered : goal.returns-in-Ok-clause-answered
returns-in-Ok-clause-answered g c request next =
    let n = rw c.in-Ok.is at next in
    responds_as (records_allow (standing_of c.args.self.now) request c.args.count c.in-Ok.first [] c.args.self.now.molfile.items
    c.args.self.now.records n)
    (c.register_sd.ensures (records_in c.args.count request.more) (records_length c.args.count request.more) n.5
    c.args.self.now.cursors.settings.page (cursors_of (opened c.args.self.now.cursors)))

pub returns-in-Err-clause-answered : goal.returns-in-Err-clause-answered
returns-in-Err-clause-answered g c request next =
    said [] (line.Refused (refusals.Line c.in-Err.refusal)) c.say.result
    (uses-none g.met.S.Service.stays c.args.service.now)
    (rests (Refused (refusals.Line c.in-Err.refusal))
    (records_refused (standing_of c.args.self.now) request c.args.count c.in-Err.refusal [] c.args.self.now.molfile.items
    c.args.self.now.records (rw c.in-Err.is at next))) c.say.ensures
