use Rattle.std.proofs.Common.{refl}
use Rattle.shell_lang.specs.Reply as line
use Rattle.store_machine.specs.declared.machine.Event.TheVariants as events
use Rattle.store_machine.specs.declared.machine.Reply.TheVariants as replies
use Rattle.session_run.proofs.Lines.{asked}
use Rattle.session_run.proofs.commands.compact.Goals as goal

pub returns : goal.returns
returns g c size cursors =
    asked events.Compact _ _ c.compact_line.result c.say_given.result (λ r. refl) refl replies.NoMemory line.MemoryFault refl c.compact-answer.ensures.call
    c.compact-answer.ensures.held c.compact-answer.ensures.bounds c.compact-answer.ensures.worn.1 c.compact_line.ensures
    c.say_given.ensures
