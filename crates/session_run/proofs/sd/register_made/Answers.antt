use Rattle.std.proofs.Common.{[], refl}
use Rattle.std.specs.Arc.{arc_value}
use Rattle.shell_lang.specs.Reply as line
use Rattle.shell_lang.specs.Reply.{reply_of}
use Rattle.store_core.specs.Records.{IsRecord}
use Rattle.session_acts.specs.Watching.{Standing}
use Rattle.session_run.specs.Standings.{watched_all}
use Rattle.session_run.proofs.Joined.{uses-none}
use Rattle.session_run.proofs.Lines.{answered_as, said}
use Rattle.session_run.proofs.Registered.{registers_committed, registers_fault, registers_refused}
use Rattle.session_run.proofs.sd.register_made.Goals as goal

pub returns-in-Some-Ok : goal.returns-in-Some-Ok
returns-in-Some-Ok g c id sum r ready =
    let entry = c.in-Some-Ok.record in
    let sound : IsRecord (arc_value entry) = rw c.deref.ensures at c.record_is_sound.ensures.record in
    answered_as (λ (k : Standing). k.watches)
    (λ calls lines x a. registers_committed id sum r entry 1 [] (watched_all c.args.watches.now.watches) (rw (c.in-Some-Ok.is, c.in-Some-Ok.field-0-is) at ready) sound calls lines x a)
    (c.commit.ensures 1 [])

pub returns-in-Some-Err : goal.returns-in-Some-Err
returns-in-Some-Err g c id sum r ready =
    said [] (reply_of c.refuse_text.result) c.say.result (uses-none g.met.S.Service.stays c.args.service.now) (
      registers_refused id sum r c.in-Some-Err.fault (reply_of c.refuse_text.result) (rw (c.in-Some-Err.is, c.in-Some-Err.field-0-is) at ready)
          c.refuse_text.ensures,
      refl,
    ) c.say.ensures

pub returns-in-None : goal.returns-in-None
returns-in-None g c id sum r ready =
    said [] line.MemoryFault c.say-in-None.result (uses-none g.met.S.Service.stays c.args.service.now)
    (registers_fault id sum r, refl) c.say-in-None.ensures
