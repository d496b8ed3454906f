-- The call is one event, which is told.
use Rattle.std.proofs.Common.{◌∙◌, ap}
use Rattle.store_machine.specs.declared.machine.Event.TheVariants.{Fetch}
use Rattle.store_core.specs.Replies.{fetch_calls}
use Rattle.hall.specs.Histories.{calls_told}
use Rattle.hall.proofs.Adding.{adds}
use Rattle.hall.proofs.Calls.{other-call}
use Rattle.hall.proofs.kept.Kept.fetch.Goals as goal

pub returns-clause-adds : goal.returns-clause-adds
returns-clause-adds g c =
    adds _ _ _ (Fetch c.args.pin.now.slot c.args.want.now c.args.from c.args.limit) _ _ c.laws.ensures.free
    c.laws.ensures.asks
    (other-call (Fetch c.args.pin.now.slot c.args.want.now c.args.from c.args.limit) _ c.fetch-answer.result)
    c.fetch-answer.ensures.worn
    (ap calls_told c.of-4.ensures
    ∙ (ap (λ w. fetch_calls c.args.pin.now.slot w c.args.from c.args.limit c.of-2.result.value.records
    c.of-3.result.value) c.of.ensures
    ∙ (ap (λ p. fetch_calls c.args.pin.now.slot c.args.want.now c.args.from c.args.limit p.records
    c.of-3.result.value) c.of-2.ensures
    ∙ ap (fetch_calls c.args.pin.now.slot c.args.want.now c.args.from c.args.limit c.fetch-answer.new.page.records)
    c.of-3.ensures)))
    _ c.deref_mut.ensures.value c.fetch-answer.ensures.call
