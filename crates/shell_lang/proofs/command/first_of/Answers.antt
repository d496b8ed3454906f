use Rattle.shell_lang.proofs.Taken.{no_last_identifier}
use Rattle.shell_lang.proofs.command.first_of.Goals as goal

pub returns-else-last-le-LAST_IDENTIFIER-clause-none :
    goal.returns-else-last-le-LAST_IDENTIFIER-clause-none
returns-else-last-le-LAST_IDENTIFIER-clause-none c =
    let is = c.in_ok-first.ensures.some in
    no_last_identifier _ c.args.count c.in_ok-first.first c.requires is.0 is.1.1
    c.if-last-le-LAST_IDENTIFIER.false
