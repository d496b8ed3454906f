use Rattle.shell_lang.proofs.Cuts.{no_word, line_of_rest}
use Rattle.shell_lang.proofs.command.read_command.Goals as goal

pub returns-in_default-of_bytes : goal.returns-in_default-of_bytes
returns-in_default-of_bytes c =
    no_word _ _ _ c.in-Some.ensures.parts c.in-Some.ensures.first c.in_default-of_bytes.ensures

pub returns : goal.returns
returns c =
    line_of_rest _ _ _ _ _ c.in-Some.ensures.parts c.in-Some.ensures.first c.in-Some-of_bytes.ensures
    c.with_rest.ensures
