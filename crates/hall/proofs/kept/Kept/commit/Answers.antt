-- The call is one event, which is told.
use Rattle.std.proofs.Common.{◌∙◌, ap}
use Rattle.store_machine.specs.declared.machine.Event.TheVariants.{Commit}
use Rattle.store_core.specs.Replies.{change_of, commit_calls}
use Rattle.hall.specs.Histories.{calls_told}
use Rattle.hall.proofs.Adding.{adds}
use Rattle.hall.proofs.Calls.{commit-call}
use Rattle.hall.proofs.kept.Kept.commit.Goals as goal

pub returns-clause-adds : goal.returns-clause-adds
returns-clause-adds g c =
    adds _ _ _ (Commit (change_of c.args.change)) _ _ c.laws.ensures.free c.laws.ensures.asks
    (commit-call c.args.change c.commit-answer.result) c.commit-answer.ensures.worn
    (ap calls_told c.of-2.ensures ∙ (ap (λ x. commit_calls x c.of.result.value) c.of-asked.ensures
    ∙ ap (commit_calls c.args.change) c.of.ensures))
    _ c.deref_mut.ensures.value c.commit-answer.ensures.call
