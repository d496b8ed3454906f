use Rattle.std.proofs.Common.{◌<◌, [], arith, length, refl}
use Rattle.std.proofs.lemmas.List.{length-map}
use Rattle.shell_lang.specs.Reply as line
use Rattle.shell_lang.specs.Reply.{reply_of}
use Rattle.shell_lang.specs.declared.reply.Refusal.TheVariants as refusals
use Rattle.smarts_parse.specs.Pattern.{pattern_of}
use Rattle.watch_list.specs.declared.list.TheConstants.{MOST_WATCHES}
use Rattle.session_acts.specs.Acts.{Fault, MayWatch, Refused}
use Rattle.session_run.specs.Standings.{watched, watched_all}
use Rattle.session_run.proofs.Joined.{uses-none}
use Rattle.session_run.proofs.Lines.{pattern_refused, said}
use Rattle.session_run.proofs.Looked.{looked_in_vain, looked_whole, new_pinless}
use Rattle.session_run.proofs.Standing.{at_rest, rests}
use Rattle.session_run.proofs.Viewed.{view_none, view_taken}
use Rattle.session_run.proofs.Watched.{found_hits, watch_lost, watched_now}
use Rattle.session_run.proofs.respond.Responder.watch.Goals as goal

pub returns-in-Err-clause-answered : goal.returns-in-Err-clause-answered
returns-in-Err-clause-answered g c =
    said [] (reply_of c.refuse_pattern.result) c.say.result (uses-none g.met.S.Service.stays c.args.service.now)
    (at_rest (pattern_refused (MayWatch (watched_all c.args.self.now.watches.watches) c.args.name.now c.args.text.now)
    c.args.text.now c.in-Err.fault _ tt (λ f h. h) c.in-Err.ensures.fault c.refuse_pattern.ensures)) c.say.ensures

pub returns-then-is_some-clause-answered : goal.returns-then-is_some-clause-answered
returns-then-is_some-clause-answered g c =
    said [] (line.Refused refusals.Watch) c.say-then-is_some.result
    (uses-none g.met.S.Service.stays c.args.service.now)
    (rests (Refused refusals.Watch) (
      pattern_of c.in-Ok.pattern,
      c.in-Ok.ensures.pattern,
      view_taken c.args.name.now c.args.self.now.watches.watches c.find_watch.result c.find_watch.ensures.view
          c.is_some.result c.is_some.ensures c.if-is_some.true,
    )) c.say-then-is_some.ensures

pub returns-then-is_full-clause-answered : goal.returns-then-is_full-clause-answered
returns-then-is_full-clause-answered g c =
    said [] (line.Refused refusals.Watches) c.say-then-is_full.result
    (uses-none g.met.S.Service.stays c.args.service.now)
    (rests (Refused refusals.Watches) (
      pattern_of c.in-Ok.pattern,
      c.in-Ok.ensures.pattern,
      view_none c.args.name.now c.args.self.now.watches.watches c.find_watch.result c.find_watch.ensures.view
          c.is_some.result c.is_some.ensures c.if-is_some.false,
      omega (arith, length-map c.args.self.now.watches.watches watched, c.len-is_full.ensures, c.if-is_full.true),
    )) c.say-then-is_full.ensures

pub returns-in-Ok-find_hits-clause-answered : goal.returns-in-Ok-find_hits-clause-answered
returns-in-Ok-find_hits-clause-answered g c =
    let pattern = pattern_of c.in-Ok.pattern in
    let looks = c.in-Ok-find_hits.ensures.looks in
    let l = looked_whole c.in-Ok-find_hits.list looks.2 c.find_hits.ensures.bounds in
    watched_now c.args.name.now pattern c.in-Ok-find_hits.list.version c.in-Ok-find_hits.list.hits.items l.0
    c.add.result (refl, c.in-Ok.ensures.pattern) l.1 (found_hits pattern c.in-Ok-find_hits.list l.2 looks.1 l.3)
    (view_none c.args.name.now c.args.self.now.watches.watches c.find_watch.result c.find_watch.ensures.view
    c.is_some.result c.is_some.ensures c.if-is_some.false)
    (omega (arith, length-map c.args.self.now.watches.watches watched, c.len-is_full.ensures, c.if-is_full.false))
    c.add.ensures

pub add-requires-clause-ascending : goal.add-requires-clause-ascending
add-requires-clause-ascending g c =
    let l = looked_whole c.in-Ok-find_hits.list c.in-Ok-find_hits.ensures.looks.2 c.find_hits.ensures.bounds in
    l.3.ascending

pub returns-in-Err-find_hits-clause-answered : goal.returns-in-Err-find_hits-clause-answered
returns-in-Err-find_hits-clause-answered g c =
    let pattern = pattern_of c.in-Ok.pattern in
    let looks = c.in-Err-find_hits.ensures.looks in
    let none = view_none c.args.name.now c.args.self.now.watches.watches c.find_watch.result c.find_watch.ensures.view
    c.is_some.result c.is_some.ensures c.if-is_some.false in
    let few : length (watched_all c.args.self.now.watches.watches) < MOST_WATCHES =
    omega (arith, length-map c.args.self.now.watches.watches watched, c.len-is_full.ensures, c.if-is_full.false) in
    looked_in_vain (new_pinless (refl, pattern, c.in-Ok.ensures.pattern, none, few)) (rests Fault tt)
    (watch_lost c.args.name.now pattern (refl, c.in-Ok.ensures.pattern) none few looks.1) c.in-Err-find_hits.fault
    c.fault_line.result c.say_given.result looks.2 c.find_hits.ensures.bounds c.fault_line.ensures c.say_given.ensures
