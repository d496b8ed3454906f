use Rattle.std.proofs.Common.{rules}
use Rattle.shell_lang.proofs.Cuts.{no_line}
use Rattle.shell_lang.proofs.command.alone.Goals as goal

pub returns : goal.returns
returns c =
    no_line _ c.requires (λ e. search rules) c.if-are_same.ensures.other c.if-are_same-2.ensures.other
    c.if-are_same-3.ensures.other
