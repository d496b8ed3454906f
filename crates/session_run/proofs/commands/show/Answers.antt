use Rattle.std.proofs.Common.{inl, inr, refl}
use Rattle.shell_lang.specs.Reply as line
use Rattle.store_machine.specs.declared.machine.Event.TheVariants as events
use Rattle.store_machine.specs.declared.machine.Reply.TheVariants as replies
use Rattle.session_run.proofs.Lines.{asked, gives_room}
use Rattle.session_run.proofs.commands.show.Goals as goal

pub returns : goal.returns
returns g c size cursors =
    let answer = c.look-answer.ensures in
    elim c.say_long.ensures [
      | inl w ↦ asked (events.Look c.args.id) _ _ c.look_line.result c.say_long.result (λ r. refl) refl replies.NoMemory line.MemoryFault refl answer.call
          answer.held answer.bounds answer.worn.1 c.look_line.ensures w
      | inr w ↦ asked (events.Look c.args.id) _ _ _ c.say_long.result (λ r. refl) refl replies.NoMemory line.MemoryFault refl answer.call
          answer.held answer.bounds answer.worn.1 (gives_room c.args.id _ _ c.look_line.result c.look_line.ensures) w
    ]
