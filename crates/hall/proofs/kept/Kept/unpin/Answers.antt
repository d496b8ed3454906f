-- The call is one event, which is told.
use Rattle.std.proofs.Common.{◌∙◌, ap}
use Rattle.store_machine.specs.declared.machine.Event.TheVariants.{Unpin}
use Rattle.store_core.specs.Replies.{unpin_calls}
use Rattle.hall.specs.Histories.{calls_told}
use Rattle.hall.proofs.Adding.{adds}
use Rattle.hall.proofs.Calls.{other-call}
use Rattle.hall.proofs.kept.Kept.unpin.Goals as goal

pub returns-clause-adds : goal.returns-clause-adds
returns-clause-adds g c =
    adds _ _ _ (Unpin c.args.pin.slot) _ _ c.laws.ensures.free c.laws.ensures.asks
    (other-call (Unpin c.args.pin.slot) _ c.unpin-answer.result) c.unpin-answer.ensures.worn
    (ap calls_told c.of-2.ensures ∙ ap (unpin_calls c.args.pin.slot) c.of.ensures)
    _ c.deref_mut.ensures.value c.unpin-answer.ensures.call
