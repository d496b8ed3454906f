-- The call is one event, which is told.
use Rattle.std.proofs.Common.{◌∙◌, ap}
use Rattle.store_machine.specs.declared.machine.Event.TheVariants.{Pin}
use Rattle.store_core.specs.Replies.{pin_calls}
use Rattle.hall.specs.Histories.{calls_told}
use Rattle.hall.proofs.Adding.{adds}
use Rattle.hall.proofs.Calls.{other-call}
use Rattle.hall.proofs.kept.Kept.pin.Goals as goal

pub returns-clause-adds : goal.returns-clause-adds
returns-clause-adds g c =
    adds _ _ _ Pin _ _ c.laws.ensures.free c.laws.ensures.asks
    (other-call Pin _ c.pin-answer.result) c.pin-answer.ensures.worn
    (ap calls_told c.of-2.ensures ∙ ap pin_calls c.of.ensures)
    _ c.deref_mut.ensures.value c.pin-answer.ensures.call
