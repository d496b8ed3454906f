use Rattle.std.proofs.Common.{◌∷◌, take, sym, ap, ◌∙◌}
use Rattle.std.proofs.lemmas.List.{take_rest}
use Rattle.molfile_read.specs.Text.{lines_of}
use Rattle.molfile_read.proofs.TextLines.{first_line}
use Rattle.molfile_read.proofs.lines.next_line.Goals as goal

pub returns-clause-lines : goal.returns-clause-lines
returns-clause-lines c =
    first_line c.args.text.now c.in_ok-end.end c.in_ok-end.next c.in_ok-end.ensures.line c.in_ok-end.ensures.forward
    ∙ ap (λ w. take c.in_ok-end.end c.args.text.now ∷ lines_of w) (sym (take_rest c.args.text.now c.in_ok-end.next))
