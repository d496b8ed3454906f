use Rattle.shell_lang.proofs.Taken.{no_lines_alone}
use Rattle.shell_lang.proofs.command.taken_alone.Goals as goal

pub returns-clause-none : goal.returns-clause-none
returns-clause-none c = no_lines_alone _ c.if-is_spelled.ensures.other c.if-is_spelled-2.ensures.other c.requires
