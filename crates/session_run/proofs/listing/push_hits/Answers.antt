use Rattle.std.proofs.Common.{◌∙◌, drop, sym, take}
use Rattle.std.proofs.lemmas.List.{take-append-drop}
use Rattle.session_run.proofs.Lines.{on_err}
use Rattle.session_run.proofs.listing.push_hits.Goals as goal

pub returns-in_err-reply_text-clause-err : goal.returns-in_err-reply_text-clause-err
returns-in_err-reply_text-clause-err c = on_err c.from_residual.result _ (
  take c.loop-id.id-index c.args.ids.now,
  drop c.loop-id.id-index c.args.ids.now,
  sym (take-append-drop c.loop-id.id-index c.args.ids.now),
  c.in_err-reply_text.ensures.err ∙ c.loop-id.invariant,
)
