use Rattle.std.proofs.Common.{[], refl}
use Rattle.std.specs.Arc.{arc_value}
use Rattle.mol_finish.specs.declared.fault.Format.TheVariants.{Smiles}
use Rattle.shell_lang.specs.Reply.{reply_of}
use Rattle.session_acts.specs.Acts.{Fault, MaySame}
use Rattle.session_run.proofs.Joined.{uses-none}
use Rattle.session_run.proofs.Lines.{noted, said}
use Rattle.session_run.proofs.Looked.{looked_in_vain, looked_whole, no_pin, printed_of, same_listed, same_lost, text_unread}
use Rattle.session_run.proofs.Standing.{keeps_all, same_none}
use Rattle.session_run.proofs.respond.Responder.same.Goals as goal

pub returns-in-Err-clause-answered : goal.returns-in-Err-clause-answered
returns-in-Err-clause-answered g c =
    keeps_all _ (same_none _) (said [] (reply_of c.refuse_text.result) c.say.result
    (uses-none g.met.S.Service.stays c.args.service.now)
    (text_unread (MaySame c.args.text.now) Smiles c.args.text.now c.in-Err.fault _ tt
    (λ f h. h) c.in-Err.ensures.fault c.refuse_text.ensures) c.say.ensures)

pub returns-in-Ok-find_same-clause-answered : goal.returns-in-Ok-find_same-clause-answered
returns-in-Ok-find_same-clause-answered g c =
    let p = printed_of c.args.text.now c.deref.result.now c.deref-2.result.now (arc_value c.in-Ok.record) c.deref.ensures
    c.deref-2.ensures c.record_is_sound.ensures.record c.record_is_sound.ensures.print c.in-Ok.ensures.format
    c.in-Ok.ensures.text in
    let m = c.deref-2.result.now.mol in
    let print = c.deref-2.result.now.print in
    let list = c.in-Ok-find_same.list in
    let l = looked_whole list c.in-Ok-find_same.ensures.looks c.find_same.ensures.bounds in
    keeps_all _ (same_none _) (same_listed m print l.0 list c.say_same.result l.1 (p.structure, p.print_is)
    (record { lookup = l.2; is = l.3 }) c.say_same.ensures)

pub returns-clause-answered : goal.returns-clause-answered
returns-clause-answered g c =
    let p = printed_of c.args.text.now c.deref.result.now c.deref-2.result.now (arc_value c.in-Ok.record) c.deref.ensures
    c.deref-2.ensures c.record_is_sound.ensures.record c.record_is_sound.ensures.print c.in-Ok.ensures.format
    c.in-Ok.ensures.text in
    let m = c.deref-2.result.now.mol in
    let print = c.deref-2.result.now.print in
    keeps_all _ (same_none _) (looked_in_vain (no_pin (refl, (m, p.structure))) (noted Fault tt)
    (same_lost m print (p.structure, p.print_is)) c.in-Err-find_same.fault c.fault_line.result
    c.say_given.result c.in-Err-find_same.ensures.looks c.find_same.ensures.bounds c.fault_line.ensures
    c.say_given.ensures)
