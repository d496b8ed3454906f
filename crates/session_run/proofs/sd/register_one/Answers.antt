use Rattle.std.proofs.Common.{[], refl}
use Rattle.shell_lang.specs.Reply as line
use Rattle.session_run.proofs.Joined.{uses-none}
use Rattle.session_run.proofs.Lines.{said}
use Rattle.session_run.proofs.Registered.{registers_fault, registers_note}
use Rattle.session_run.proofs.sd.register_one.Goals as goal

pub returns-in_default : goal.returns-in_default
returns-in_default g c id sum r ready =
    said [] line.MemoryFault c.say.result (uses-none g.met.S.Service.stays c.args.service.now)
    (registers_fault id sum r, refl) c.say.ensures

pub returns-in-Text : goal.returns-in-Text
returns-in-Text g c id sum r ready = c.register_made.ensures id sum r (rw (c.in-Some.is, c.in-Text.is) at ready)

pub returns-in-Refused : goal.returns-in-Refused
returns-in-Refused g c id sum r ready =
    said [] (line.Refused c.in-Refused.refusal) c.say-in-Refused.result
    (uses-none g.met.S.Service.stays c.args.service.now)
    (registers_note id sum r c.in-Refused.refusal (rw (c.in-Some.is, c.in-Refused.is) at ready), refl)
    c.say-in-Refused.ensures

pub returns-in-Lost : goal.returns-in-Lost
returns-in-Lost g c id sum r ready =
    said [] line.MemoryFault c.say-in-Lost.result (uses-none g.met.S.Service.stays c.args.service.now)
    (registers_fault id sum r, refl) c.say-in-Lost.ensures
