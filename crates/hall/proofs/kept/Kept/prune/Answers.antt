-- The call is one event, which is told.
use Rattle.std.proofs.Common.{◌∙◌, ap}
use Rattle.store_machine.specs.declared.machine.Event.TheVariants.{Prune}
use Rattle.store_core.specs.Replies.{prune_calls}
use Rattle.hall.specs.Histories.{calls_told}
use Rattle.hall.proofs.Adding.{adds}
use Rattle.hall.proofs.Calls.{other-call}
use Rattle.hall.proofs.kept.Kept.prune.Goals as goal

pub returns-clause-adds : goal.returns-clause-adds
returns-clause-adds g c =
    adds _ _ _ Prune _ _ c.laws.ensures.free c.laws.ensures.asks
    (other-call Prune _ c.prune-answer.result) c.prune-answer.ensures.worn
    (ap calls_told c.of-2.ensures ∙ ap prune_calls c.of.ensures)
    _ c.deref_mut.ensures.value c.prune-answer.ensures.call
