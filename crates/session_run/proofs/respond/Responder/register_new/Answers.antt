use Rattle.std.proofs.Common.{◌≡◌, [], inl, refl, subst}
use Rattle.std.specs.Arc.{arc_value}
use Rattle.mol_finish.specs.declared.fault.Format.TheVariants.{Smiles}
use Rattle.shell_lang.specs.Reply.{reply_of}
use Rattle.shell_lang.specs.Reply as line
use Rattle.shell_lang.specs.declared.reply.Refusal.TheVariants as refusals
use Rattle.store_machine.specs.declared.machine.Change.{Change}
use Rattle.store_machine.specs.declared.machine.Change.TheVariants as changes
use Rattle.store_machine.specs.declared.machine.Event.TheVariants as events
use Rattle.session_acts.specs.Acts.{Fault, MayAsk, MayRegisterNew, NotNew, RegisterNew, RegisteredNew}
use Rattle.session_run.proofs.Joined.{uses-more, uses-none}
use Rattle.session_run.proofs.Lines.{said}
use Rattle.session_run.proofs.Looked.{first_none, first_some, looked_in_vain, looked_whole, new_lost, new_pinless, printed_of, registered_from, text_unread}
use Rattle.session_run.proofs.Standing.{at_rest, looks_still, responds_as, rests}
use Rattle.session_run.proofs.respond.Responder.register_new.Goals as goal

pub returns-in-Err-clause-answered : goal.returns-in-Err-clause-answered
returns-in-Err-clause-answered g c =
    said [] (reply_of c.refuse_text.result) c.say.result (uses-none g.met.S.Service.stays c.args.service.now)
    (at_rest (text_unread (MayRegisterNew c.args.id c.args.text.now) Smiles c.args.text.now c.in-Err.fault _ tt
    (λ f h. h) c.in-Err.ensures.fault c.refuse_text.ensures)) c.say.ensures

pub returns-in-Some-clause-answered : goal.returns-in-Some-clause-answered
returns-in-Some-clause-answered g c =
    let p = printed_of c.args.text.now c.deref.result.now c.deref-2.result.now (arc_value c.in-Ok.record) c.deref.ensures
    c.deref-2.ensures c.record_is_sound.ensures.record c.record_is_sound.ensures.print c.in-Ok.ensures.format
    c.in-Ok.ensures.text in
    let m = c.deref-2.result.now.mol in
    let print = c.deref-2.result.now.print in
    let list = c.in-Ok-find_same.list in
    let l = looked_whole list c.in-Ok-find_same.ensures.looks c.find_same.ensures.bounds in
    let change = changes.Register c.args.id Smiles c.args.text.now in
    let id = c.in-Some.id.now in
    let first = first_some list.hits.items c.deref-in-Ok-find_same.result.now id c.deref-in-Ok-find_same.ensures.value
    c.in-Some.ensures.value in
    said l.0 (line.Refused (refusals.Same id)) c.say-in-Some.result l.1 (record {
      act = RegisterNew change m print;
      allowed = (refl, p.structure, p.print_is);
      does = inl (
        RegisteredNew change m print l.0 _
            (NotNew l.0 list id first.0 (record { lookup = l.2; is = l.3 }) first.1),
        looks_still _ l.2,
      );
    }) c.say-in-Some.ensures

pub returns-in-None-clause-answered : goal.returns-in-None-clause-answered
returns-in-None-clause-answered g c =
    let p = printed_of c.args.text.now c.deref.result.now c.deref-2.result.now (arc_value c.in-Ok.record) c.deref.ensures
    c.deref-2.ensures c.record_is_sound.ensures.record c.record_is_sound.ensures.print c.in-Ok.ensures.format
    c.in-Ok.ensures.text in
    let m = c.deref-2.result.now.mol in
    let print = c.deref-2.result.now.print in
    let list = c.in-Ok-find_same.list in
    let l = looked_whole list c.in-Ok-find_same.ensures.looks c.find_same.ensures.bounds in
    let change = changes.Register c.args.id Smiles c.args.text.now in
    let none = first_none list.hits.items c.deref-in-Ok-find_same.result.now c.deref-in-Ok-find_same.ensures.value
    c.in-None.ensures.value in
    let r = arc_value c.in-Ok.record in
    let made = c.in-Ok.ensures in
    let same : changes.Register r.id r.format r.text ≡ changes.Register c.args.id Smiles c.args.text.now =
    rw (made.id, made.format, made.text) in
    registered_from change m print l.0 list (record { lookup = l.2; is = l.3 }) none (refl, p.structure, p.print_is)
    (λ xs ys a b. uses-more g.met.S.Service.joins g.met.S.Service.lands g.met.S.Service.same a b) l.1
    (responds_as (λ act a. subst (λ (x : Change). MayAsk (events.Commit x) act) same a) (c.commit.ensures _ _))

pub returns-in-Err-find_same-clause-answered : goal.returns-in-Err-find_same-clause-answered
returns-in-Err-find_same-clause-answered g c =
    let p = printed_of c.args.text.now c.deref.result.now c.deref-2.result.now (arc_value c.in-Ok.record) c.deref.ensures
    c.deref-2.ensures c.record_is_sound.ensures.record c.record_is_sound.ensures.print c.in-Ok.ensures.format
    c.in-Ok.ensures.text in
    let m = c.deref-2.result.now.mol in
    let print = c.deref-2.result.now.print in
    let change = changes.Register c.args.id Smiles c.args.text.now in
    looked_in_vain (new_pinless (refl, (m, p.structure))) (rests Fault tt)
    (new_lost change m print (refl, p.structure, p.print_is)) c.in-Err-find_same.fault c.fault_line.result
    c.say_given.result c.in-Err-find_same.ensures.looks c.find_same.ensures.bounds c.fault_line.ensures
    c.say_given.ensures
