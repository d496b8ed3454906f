use Rattle.std.proofs.Common.{[]}
use Rattle.dialogue.proofs.Turning.{ends-none, served-none}
use Rattle.session_acts.specs.Talking.{begun, sessions}
use Rattle.session_run.proofs.Joined.{uses-none}
use Rattle.session_run.proofs.Talked.{pins_same, start}
use Rattle.session_run.proofs.run.session.Goals as goal

pub returns-in_default-clause-serves : goal.returns-in_default-clause-serves
returns-in_default-clause-serves g c = (
  [],
  (uses-none {of = g.S.Service} g.met.S.Service.stays c.args.service.now).makes,
  served-none sessions (begun c.args.settings.now.page) (g.I.Source.left c.args.source.now)
      (g.O.Sink.written c.args.sink.now),
)

pub returns-in_default-clause-ends : goal.returns-in_default-clause-ends
returns-in_default-clause-ends g c =
    ends-none g.I.Source g.O.Sink c.args.settings.now.input_limit c.args.source.now c.args.sink.now

pub talk-requires-clause-ready : goal.talk-requires-clause-ready
talk-requires-clause-ready g c = (
  begun c.args.settings.now.page,
  start g.S.Service _ c.args.service.now c.args.settings.now c.in-Ok.ensures.settings c.in-Ok.ensures.none
      c.in-Ok.ensures.unwatched c.requires.servable (c.new-2.ensures _ _),
)

pub returns-clause-serves : goal.returns-clause-serves
returns-clause-serves g c =
    let t = c.talk.ensures.serves (begun c.args.settings.now.page) (start g.S.Service _ c.args.service.now
    c.args.settings.now c.in-Ok.ensures.settings c.in-Ok.ensures.none c.in-Ok.ensures.unwatched c.requires.servable
    (c.new-2.ensures _ _)) in
    (t.calls, t.made.makes, t.served)

pub returns-clause-pins : goal.returns-clause-pins
returns-clause-pins g c = λ lives.
    let t = c.talk.ensures.serves (begun c.args.settings.now.page) (start g.S.Service _ c.args.service.now
    c.args.settings.now c.in-Ok.ensures.settings c.in-Ok.ensures.none c.in-Ok.ensures.unwatched c.requires.servable
    (c.new-2.ensures _ _)) in
    pins_same c.args.settings.now.page (g.S.Service.holds c.args.service.now) (g.S.Service.holds c.talk.new.peer) t.calls
    (t.keeps lives) t.made.pins.apart t.made.pins.now

pub returns-clause-bounds : goal.returns-clause-bounds
returns-clause-bounds g c =
    let t = c.talk.ensures.serves (begun c.args.settings.now.page) (start g.S.Service _ c.args.service.now
    c.args.settings.now c.in-Ok.ensures.settings c.in-Ok.ensures.none c.in-Ok.ensures.unwatched c.requires.servable
    (c.new-2.ensures _ _)) in
    t.made.bounds
