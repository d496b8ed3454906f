use Rattle.std.proofs.Common.{refl}
use Rattle.shell_lang.specs.Reply as line
use Rattle.store_machine.specs.declared.machine.Event.TheVariants as events
use Rattle.store_machine.specs.declared.machine.Reply.TheVariants as replies
use Rattle.session_run.proofs.Lines.{asked}
use Rattle.session_run.proofs.commands.stats.Goals as goal

pub returns : goal.returns
returns g c size cursors =
    asked events.Stats _ _ c.stats_line.result c.say_given.result (λ r. refl) refl (replies.Counted 0 0 0 0 0) (line.Counts 0 0 0 0 0) refl c.stats-answer.ensures.call
    c.stats-answer.ensures.held c.stats-answer.ensures.bounds c.stats-answer.ensures.worn.1 c.stats_line.ensures
    c.say_given.ensures
