use Rattle.std.proofs.Common.{[], refl, subst, ℕ}
use Rattle.lookup.specs.Fetches.{IsAnew}
use Rattle.lookup.proofs.Looked.{looked-fault, looked-some}
use Rattle.shell_lang.specs.Reply as line
use Rattle.shell_lang.specs.declared.reply.Refusal.TheVariants as refusals
use Rattle.session_acts.specs.Acts.{Fault, Refused}
use Rattle.session_run.proofs.Joined.{uses-none}
use Rattle.session_run.proofs.Lines.{said}
use Rattle.session_run.proofs.Looked.{looked_so, looked_whole, new_pinless}
use Rattle.session_run.proofs.Standing.{rests}
use Rattle.session_run.proofs.Viewed.{hits_answered, hits_known, need_seen, view_absent, view_seen}
use Rattle.session_run.proofs.Watched.{hits_lost}
use Rattle.session_run.proofs.respond.Responder.hits.Goals as goal

pub returns-in_default-clause-answered : goal.returns-in_default-clause-answered
returns-in_default-clause-answered g c =
    said [] (line.Refused refusals.Watch) c.say.result (uses-none g.met.S.Service.stays c.args.service.now)
    (rests (Refused refusals.Watch)
    (view_absent c.args.name.now c.args.self.now.watches.watches c.in_default.ensures.view)) c.say.ensures

pub returns-in-Ok-None-clause-answered : goal.returns-in-Ok-None-clause-answered
returns-in-Ok-None-clause-answered g c =
    let seen = view_seen c.args.name.now c.args.self.now.watches.watches c.in-Some.kept c.in-Some.ensures.view in
    let looks = rw c.in-Ok-None.field-0-is at c.in-Ok-None.ensures.looks in
    hits_known c.args.name.now c.in-Some.kept seen looks.1 looks.2 c.find_newer_hits.ensures.bounds c.say_hits.result
    c.say_hits.ensures

pub returns-in-Ok-Some-clause-answered : goal.returns-in-Ok-Some-clause-answered
returns-in-Ok-Some-clause-answered g c =
    let seen = view_seen c.args.name.now c.args.self.now.watches.watches c.in-Some.kept c.in-Some.ensures.view in
    let looks = rw c.in-Ok-Some.field-0-is at c.in-Ok-Some.ensures.looks in
    hits_answered c.args.name.now c.in-Some.kept seen looks.1 c.in-Ok-Some.list looks.2
    c.find_newer_hits.ensures.bounds c.fill.new.watches.watches c.fill.result c.fill.ensures

pub fill-requires-clause-ascending : goal.fill-requires-clause-ascending
fill-requires-clause-ascending g c =
    let looks = rw c.in-Ok-Some.field-0-is at c.in-Ok-Some.ensures.looks in
    let l = looked_whole c.in-Ok-Some.list (looked-some looks.2) c.find_newer_hits.ensures.bounds in
    l.3.1.ascending

pub returns-in-Err-clause-answered : goal.returns-in-Err-clause-answered
returns-in-Err-clause-answered g c =
    let seen = view_seen c.args.name.now c.args.self.now.watches.watches c.in-Some.kept c.in-Some.ensures.view in
    let looks = c.in-Err.ensures.looks in
    let l = looked-fault looks.2 in
    looked_so (new_pinless (refl, seen.taken)) (rests Fault tt) (IsAnew c.in-Some.kept.version)
    (λ place calls up anew. hits_lost c.args.name.now seen.w seen.named refl
    (need_seen c.args.name.now c.in-Some.kept seen looks.1) place calls up
    (subst (λ (v : ℕ). IsAnew v up.version up.pages) seen.version_is anew))
    c.in-Err.fault c.fault_line.result c.say_given.result l.0 l.1 c.find_newer_hits.ensures.bounds
    c.fault_line.ensures c.say_given.ensures
