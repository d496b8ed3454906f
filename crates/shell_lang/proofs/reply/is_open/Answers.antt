use Rattle.shell_lang.proofs.Ended.{ended_by}
use Rattle.shell_lang.proofs.reply.is_open.Goals as goal

pub returns-in-Some : goal.returns-in-Some
returns-in-Some c = ended_by _ _ c.in-Some.ensures.value
