-- The session's calls are a stretch at the desk.
use Rattle.std.proofs.Common.{◌∙◌, ap, refl, Some, subst, sym}
use Rattle.hall.specs.Passes.{IsOf}
use Rattle.serve_ends.proofs.AtDesk.{of-there, was-served, worn-from}
use Rattle.serve_ends.proofs.slot.serve_end.Goals as goal

pub returns : goal.returns
returns g c =
    let a = c.desk-desk.result in
    let b = c.session-ended.new.service in
    let there = sym c.take.ensures.value ∙ c.in-Some.is in
    let serves = c.session-ended.ensures.serves in
    was-served g.S.Source g.K.Sink c.args.settings.now c.args.hall.now c.args.slot.now _ a b c.leave.result serves.0
    (there ∙ ap (λ p. Some p) (sym c.desk-desk.ensures.pass)) refl c.leave.ensures.pass
    (subst (IsOf c.args.hall.now) (sym c.desk-desk.ensures.pass)
    (of-there c.args.hall.now c.args.slot.now c.in-Some.pass c.requires.can there))
    serves.1
    (record {
      ended = c.session-ended.result;
      status = c.end_status-end.ensures;
      served = serves.2;
      ends = c.session-ended.ensures.ends;
    })
    (λ w. c.session-ended.ensures.worn
    (worn-from c.session-ended.result c.end_status-end.result c.end_status-end.ensures w))
