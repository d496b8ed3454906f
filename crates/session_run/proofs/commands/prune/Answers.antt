use Rattle.std.proofs.Common.{refl}
use Rattle.shell_lang.specs.Reply as line
use Rattle.store_machine.specs.declared.machine.Event.TheVariants as events
use Rattle.store_machine.specs.declared.machine.Reply.TheVariants as replies
use Rattle.session_run.proofs.Lines.{asked}
use Rattle.session_run.proofs.commands.prune.Goals as goal

pub returns : goal.returns
returns g c size cursors =
    asked events.Prune _ _ c.prune_line.result c.say_given.result (λ r. refl) refl (replies.Pruned 0) (line.Pruned 0) refl c.prune-answer.ensures.call
    c.prune-answer.ensures.held c.prune-answer.ensures.bounds c.prune-answer.ensures.worn.1 c.prune_line.ensures
    c.say_given.ensures
