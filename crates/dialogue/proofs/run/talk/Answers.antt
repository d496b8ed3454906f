use Rattle.dialogue.proofs.Turning.{closes-worn, ends-worn, serves-closed, serves-closing, serves-worn}
use Rattle.dialogue.proofs.run.talk.Goals as goal

pub returns-in-Worn-clause-serves : goal.returns-in-Worn-clause-serves
returns-in-Worn-clause-serves g c = λ kept ready.
    serves-worn g.T.Talk.talk (rw c.in-Worn.is at (c.talk_open-end.ensures.talks kept ready))

pub returns-in-Ok : goal.returns-in-Ok
returns-in-Ok g c = record {
  serves = λ kept ready.
      let s = c.talk_open-end.ensures.talks kept ready in
      serves-closed g.T.Talk.talk s g.met.T.Talk.made_more c.close.new.peer c.in_default.not-Worn
      (c.in-Ok.ensures s.kept' (s.closable c.in_default.not-Worn));
  worn = λ e. absurd (c.in_default.not-Worn e);
  ends = c.talk_open-end.ensures.ends;
}

pub returns-in-Err : goal.returns-in-Err
returns-in-Err g c = record {
  serves = λ kept ready.
      let s = c.talk_open-end.ensures.talks kept ready in
      serves-closing g.T.Talk.talk s g.met.T.Talk.made_more c.close.new.peer c.in_default.not-Worn c.in-Err.field-0
      (c.in-Err.ensures s.kept' (s.closable c.in_default.not-Worn));
  worn = λ e.
      let s = c.talk_open-end.ensures.talks c.requires.ready.0 c.requires.ready.1 in
      closes-worn g.T.Talk.talk c.in-Err.field-0 c.talk_open-end.new.peer c.close.new.peer s.kept'
      (c.in-Err.ensures s.kept' (s.closable c.in_default.not-Worn));
  ends = ends-worn c.talk_open-end.ensures.ends;
}
