use Rattle.std.proofs.Common.{[], refl}
use Rattle.std.specs.Arc.{arc_value}
use Rattle.mol_finish.specs.declared.fault.Format.TheVariants.{Smiles}
use Rattle.shell_lang.specs.Reply.{reply_of}
use Rattle.session_acts.specs.Acts.{Fault, MaySimilar}
use Rattle.session_run.proofs.Joined.{uses-none}
use Rattle.session_run.proofs.Lines.{noted, said}
use Rattle.session_run.proofs.Looked.{looked_in_vain, looked_whole, no_pin, printed_of, similar_listed, similar_lost, text_unread}
use Rattle.session_run.proofs.Standing.{keeps_all, similar_none}
use Rattle.session_run.proofs.respond.Responder.similar.Goals as goal

pub returns-in-Err-clause-answered : goal.returns-in-Err-clause-answered
returns-in-Err-clause-answered g c =
    keeps_all _ (similar_none _ _ _ _) (said [] (reply_of c.refuse_text.result) c.say.result
    (uses-none g.met.S.Service.stays c.args.service.now)
    (text_unread (MaySimilar c.args.asked.p c.args.asked.q c.args.asked.k c.args.text.now) Smiles c.args.text.now
    c.in-Err.fault _ tt (λ f h. h) c.in-Err.ensures.fault c.refuse_text.ensures) c.say.ensures)

pub returns-in-Ok-find_similar-clause-answered : goal.returns-in-Ok-find_similar-clause-answered
returns-in-Ok-find_similar-clause-answered g c =
    let of = printed_of c.args.text.now c.deref.result.now c.deref-2.result.now (arc_value c.in-Ok.record) c.deref.ensures
    c.deref-2.ensures c.record_is_sound.ensures.record c.record_is_sound.ensures.print c.in-Ok.ensures.format
    c.in-Ok.ensures.text in
    let m = c.deref-2.result.now.mol in
    let print = c.deref-2.result.now.print in
    let p = c.args.asked.p in
    let q = c.args.asked.q in
    let k = c.args.asked.k in
    let list = c.in-Ok-find_similar.list in
    let looks = c.in-Ok-find_similar.ensures.looks in
    let l = looked_whole list looks.2 c.find_similar.ensures.bounds in
    keeps_all _ (similar_none _ _ _ _) (similar_listed p q k print l.0 list c.say_similar.result l.1
    (refl, refl, refl, m, of.structure, of.print_is)
    (record { want = looks.0; none = looks.1; lookup = l.2; is = l.3 }) c.say_similar.ensures)

pub returns-clause-answered : goal.returns-clause-answered
returns-clause-answered g c =
    let of = printed_of c.args.text.now c.deref.result.now c.deref-2.result.now (arc_value c.in-Ok.record) c.deref.ensures
    c.deref-2.ensures c.record_is_sound.ensures.record c.record_is_sound.ensures.print c.in-Ok.ensures.format
    c.in-Ok.ensures.text in
    let m = c.deref-2.result.now.mol in
    let print = c.deref-2.result.now.print in
    let p = c.args.asked.p in
    let q = c.args.asked.q in
    let k = c.args.asked.k in
    let looks = c.in-Err-find_similar.ensures.looks in
    keeps_all _ (similar_none _ _ _ _) (looked_in_vain (no_pin (refl, (m, of.structure))) (noted Fault tt)
    (similar_lost p q k print looks.0 (refl, refl, refl, m, of.structure, of.print_is) looks.1)
    c.in-Err-find_similar.fault c.fault_line.result c.say_given.result looks.2 c.find_similar.ensures.bounds
    c.fault_line.ensures c.say_given.ensures)
