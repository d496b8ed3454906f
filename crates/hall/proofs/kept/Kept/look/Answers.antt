-- The call is one event, which is told.
use Rattle.std.proofs.Common.{◌∙◌, ap}
use Rattle.store_machine.specs.declared.machine.Event.TheVariants.{Look}
use Rattle.store_core.specs.Replies.{look_calls}
use Rattle.hall.specs.Histories.{calls_told}
use Rattle.hall.proofs.Adding.{adds}
use Rattle.hall.proofs.Calls.{other-call}
use Rattle.hall.proofs.kept.Kept.look.Goals as goal

pub returns-clause-adds : goal.returns-clause-adds
returns-clause-adds g c =
    adds _ _ _ (Look c.args.id) _ _ c.laws.ensures.free c.laws.ensures.asks
    (other-call (Look c.args.id) _ c.look-answer.result) c.look-answer.ensures.worn
    (ap calls_told c.of-2.ensures ∙ ap (look_calls c.args.id) c.of.ensures)
    _ c.deref_mut.ensures.value c.look-answer.ensures.call
