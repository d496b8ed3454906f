use Rattle.std.proofs.Common.{Some, ap, arith, refl, sym}
use Rattle.dialogue.proofs.Turning.{rose-since, takes_all, takes_whole, takes_within, under_way-start}
use Rattle.dialogue.specs.Turns.{start_at}
use Rattle.dialogue.proofs.run.talk_by.Goals as goal

pub turns-init : goal.turns-init
turns-init g c = record {
  under_way = λ kept ready. under_way-start g.T.Talk.talk kept c.args.talker.now c.args.peer.now
      (g.I.Source.left c.args.source.now) (g.O.Sink.written c.args.sink.now) c.args.lines.now c.requires.fresh
      c.requires.limit (g.met.T.Talk.made_none c.args.peer.now) ready;
  source_count = omega arith;
  sink_count = omega arith;
}

pub turn-requires : goal.turn-requires
turn-requires g c =
    let u = c.turns.invariant.under_way c.requires.ready.0 c.requires.ready.1 in
    record {
      ready = (u.kept, u.number, u.ready, u.few);
      answers = c.requires.answers;
      limit = rw (sym u.read.limit_is) at u.below;
    }

pub turns-preserved : goal.turns-preserved
turns-preserved g c =
    let i = c.turns.invariant in
    let then = c.in_default.ensures in
    record {
      under_way = λ kept ready. then.leaves (start_at kept c.args.peer.now c.args.lines.now.limit (g.I.Source.left c.args.source.now)
          (g.O.Sink.written c.args.sink.now))
          (i.under_way kept ready);
      source_count = omega (arith, i.source_count, then.source_count);
      sink_count = omega (arith, i.sink_count, then.sink_count);
    }

pub turns-smaller : goal.turns-smaller
turns-smaller g c =
    let then = c.in_default.ensures in
    let u = c.turns.invariant.under_way c.requires.ready.0 c.requires.ready.1 in
    let read = (then.leaves (start_at c.requires.ready.0 c.args.peer.now c.args.lines.now.limit (g.I.Source.left c.args.source.now)
    (g.O.Sink.written c.args.sink.now)) u).read in
    omega (arith, then.progress refl, read.within, read.limit_is, u.read.limit_is)

pub returns-in-Some-clause-talks : goal.returns-in-Some-clause-talks
returns-in-Some-clause-talks g c = λ kept ready.
    let e = c.in-Some.ensures.leaves (start_at kept c.args.peer.now c.args.lines.now.limit (g.I.Source.left c.args.source.now)
    (g.O.Sink.written c.args.sink.now))
    (c.turns.invariant.under_way kept ready) in
    e.talks

pub returns-in-Some-clause-ends : goal.returns-in-Some-clause-ends
returns-in-Some-clause-ends g c =
    let i = c.turns.invariant in
    let then = c.in-Some.ensures in
    let e = then.leaves (start_at c.requires.ready.0 c.args.peer.now c.args.lines.now.limit (g.I.Source.left c.args.source.now)
    (g.O.Sink.written c.args.sink.now))
    (i.under_way c.requires.ready.0 c.requires.ready.1) in
    record {
      source_fault = λ is. rose-since _ _ _ i.source_count (then.source_fault (ap Some is));
      sink_fault = λ is. rose-since _ _ _ i.sink_count (then.sink_fault (ap Some is));
      done = λ is. takes_whole e.read (then.ended (ap Some is));
      within = takes_within e.read;
      too_long = λ is. takes_all e.read (then.too_long (ap Some is));
    }
