use Rattle.std.proofs.Common.{◌∙◌, ap, inl, inr, refl, subst, ℕ}
use Rattle.shell_lang.specs.Reply as line
use Rattle.session_run.specs.Made.{Tells}
use Rattle.session_run.specs.Standings.{watched_all}
use Rattle.session_run.proofs.Viewed.{added_seen}
use Rattle.session_run.proofs.watches.add.Goals as goal

pub returns-in_default : goal.returns-in_default
returns-in_default c = inr (refl, c.say.ensures)

pub returns-in-Ok-add : goal.returns-in-Ok-add
returns-in-Ok-add c = inl (
  added_seen c.args.name.now c.args.pattern c.args.list.version c.args.list.hits.items _ _ c.in-Ok-add.ensures.ok,
  subst (λ (n : ℕ). Tells (line.Watching c.args.list.version n) c.args.out.now.items c.say-in-Ok-add.new.out.items c.say-in-Ok-add.result)
      (c.in-Ok.ensures.ok ∙ (c.len.ensures ∙ c.args.list.hits.ok.0)) c.say-in-Ok-add.ensures,
)

pub returns-in-Err : goal.returns-in-Err
returns-in-Err c = inr (ap watched_all c.in-Err.ensures.err, c.say-in-Err.ensures)
