use Rattle.std.proofs.Common.{◌∙◌, map, take}
use Rattle.shell_lang.specs.Reply.{text_of}
use Rattle.session_acts.specs.Acts.{like_line}
use Rattle.session_run.proofs.Lines.{on_err}
use Rattle.session_run.proofs.lookups.push_likes.Goals as goal

pub returns-in_err-reply_text-clause-err : goal.returns-in_err-reply_text-clause-err
returns-in_err-reply_text-clause-err c = on_err c.from_residual.result _ (
  text_of (map like_line (take c.loop-like.like-index c.args.likes.now)),
  c.in_err-reply_text.ensures.err ∙ c.loop-like.invariant,
)
