use Rattle.session_acts.specs.Requests.{request_of}
use Rattle.session_run.proofs.Talked.{answered}
use Rattle.session_run.proofs.talker.Talker.answer.Goals as goal

pub finish-next-requires : goal.finish-next-requires
finish-next-requires g c = (c.requires.1, rw c.deref.ensures.value c.requires.2.holds)

pub answer-requires-clause-ready : goal.answer-requires-clause-ready
answer-requires-clause-ready g c _ _ = let r = c.requires.2.ready in record { fit = r.fit; held = r.held }

pub answer-requires-clause-request : goal.answer-requires-clause-request
answer-requires-clause-request g c _ _ = (
  request_of c.requires.1,
  rw c.deref.ensures.value at (c.finish-next.ensures c.requires.1 c.args.line.now
      (rw c.deref.ensures.value c.requires.2.holds) c.requires.3),
)

pub returns : goal.returns
returns g c = λ kept lines n h asked.
    answered _ c.answer.new.service lines n h c.answer.ensures.fit c.answer.ensures.settings
    (c.new-self.ensures c.answer.new.self.molfile.items c.answer.new.self.records) c.answer.result
    (c.answer.ensures.answered (request_of lines) (rw c.deref.ensures.value at (c.finish-next.ensures lines
    c.args.line.now (rw c.deref.ensures.value h.holds) asked)))
