use Rattle.std.proofs.Common.{[]}
use Rattle.shell_lang.specs.Reply as line
use Rattle.shell_lang.specs.declared.reply.Refusal.TheVariants as refusals
use Rattle.session_acts.specs.Acts.{Refused}
use Rattle.session_run.specs.Opened.{opened}
use Rattle.session_run.proofs.Joined.{uses-none}
use Rattle.session_run.proofs.Lines.{noted, said}
use Rattle.session_run.proofs.Opening.{closes, fit_as, fit_same, pin_at, sized_without, still, unclosed}
use Rattle.session_run.proofs.cursors.Cursors.close.Goals as goal

pub returns-in_default-clause-answered : goal.returns-in_default-clause-answered
returns-in_default-clause-answered g c =
    still c.in_default.ensures.same (said [] (line.Refused refusals.Cursor) c.say.result
    (uses-none g.met.S.Service.stays c.args.service.now) (noted (Refused refusals.Cursor) c.in_default.ensures.none)
    c.say.ensures)

pub returns-in_default-clause-fit : goal.returns-in_default-clause-fit
returns-in_default-clause-fit g c =
    fit_same c.args.self.now c.take.new.self c.take.ensures.settings c.in_default.ensures.same c.requires.fit

pub give_back-requires : goal.give_back-requires
give_back-requires g c =
    let t = c.in-Some.ensures.some in
    pin_at c.args.name.now (opened c.args.self.now) t.place c.in-Some.cursor t.named_at t.is
    (g.S.Service.holds c.args.service.now) c.requires.held

pub returns-in-Ok-clause-answered : goal.returns-in-Ok-clause-answered
returns-in-Ok-clause-answered g c =
    let t = c.in-Some.ensures.some in
    closes c.args.name.now (opened c.args.self.now) t.place c.in-Some.cursor t.named_at t.is t.left c.in-Ok.ensures
    c.say-in-Ok.ensures

pub returns-in-Ok-clause-fit : goal.returns-in-Ok-clause-fit
returns-in-Ok-clause-fit g c =
    let t = c.in-Some.ensures.some in
    fit_as c.args.self.now c.take.new.self c.take.ensures.settings (sized_without c.args.name.now
    (opened c.args.self.now) t.place c.in-Some.cursor t.named_at t.is c.args.self.now.settings.page t.left
    c.requires.fit.sized) c.requires.fit

pub returns-clause-answered : goal.returns-clause-answered
returns-clause-answered g c =
    let t = c.in-Some.ensures.some in
    unclosed c.args.name.now (opened c.args.self.now) t.place c.in-Some.cursor t.named_at t.is _ c.in-Err.stop
    c.in-Err.ensures

pub returns-clause-fit : goal.returns-clause-fit
returns-clause-fit g c =
    let t = c.in-Some.ensures.some in
    fit_as c.args.self.now c.take.new.self c.take.ensures.settings (sized_without c.args.name.now
    (opened c.args.self.now) t.place c.in-Some.cursor t.named_at t.is c.args.self.now.settings.page t.left
    c.requires.fit.sized) c.requires.fit
