use Rattle.std.proofs.Common.{refl}
use Rattle.drill_run.proofs.Asked.{as-asked, as-cut, asked-line, ready-as, taken-is}
use Rattle.drill_run.proofs.sessions.Sessions.answer.Goals as goal

pub answer_line-requires-clause-ready : goal.answer_line-requires-clause-ready
answer_line-requires-clause-ready g c _ _ =
    let h = c.requires.3 in
    (c.requires.0.tally, c.requires.2, ready-as c.args.self.now _ c.args.slot.now _ _ refl refl h.ready)

pub returns-in-Ok : goal.returns-in-Ok
returns-in-Ok g c = λ kept lines n h asked small.
    let l = asked-line lines c.args.text.now asked in
    as-asked c.args.self.now c.answer_line.new.self c.args.slot.now c.answer_line.new.slot kept lines l.0 n h.kept_is
    l.1 (c.in-Ok.ensures l.0 (taken-is c.args.self.now.too_long lines l.0 l.1 h.taken) l.2 kept.tally n
    (ready-as c.args.self.now _ c.args.slot.now kept.tally n refl refl h.ready) small)

pub returns-in-Err : goal.returns-in-Err
returns-in-Err g c = λ kept lines n h asked small.
    let l = asked-line lines c.args.text.now asked in
    as-cut c.args.self.now c.answer_line.new.self c.args.slot.now c.answer_line.new.slot kept lines l.0 n _ h.kept_is
    l.1 (c.in-Err.ensures l.0 (taken-is c.args.self.now.too_long lines l.0 l.1 h.taken) l.2 kept.tally n
    (ready-as c.args.self.now _ c.args.slot.now kept.tally n refl refl h.ready) small)
