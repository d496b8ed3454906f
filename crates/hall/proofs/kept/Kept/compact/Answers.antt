-- The call is one event, which is told.
use Rattle.std.proofs.Common.{◌∙◌, ap}
use Rattle.store_machine.specs.declared.machine.Event.TheVariants.{Compact}
use Rattle.store_core.specs.Replies.{compact_calls}
use Rattle.hall.specs.Histories.{calls_told}
use Rattle.hall.proofs.Adding.{adds}
use Rattle.hall.proofs.Calls.{compact-call}
use Rattle.hall.proofs.kept.Kept.compact.Goals as goal

pub returns-clause-adds : goal.returns-clause-adds
returns-clause-adds g c =
    adds _ _ _ Compact _ _ c.laws.ensures.free c.laws.ensures.asks
    (compact-call c.compact-answer.result) c.compact-answer.ensures.worn
    (ap calls_told c.of-2.ensures ∙ ap compact_calls c.of.ensures)
    _ c.deref_mut.ensures.value c.compact-answer.ensures.call
