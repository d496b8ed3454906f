use Rattle.std.proofs.Common.{sym, ◌∙◌}
use Rattle.sd_read.proofs.TextLines.{first_line}
use Rattle.sd_read.proofs.lines.Lines.next.Goals as goal

pub returns : goal.returns
returns c = sym c.self.view_is ∙ first_line c.self.inside.text.now c.self.inside.place c.in_ok-end.end c.in_ok-end.next
    c.self.invariant c.in_ok-end.ensures.line c.in_ok-end.ensures.forward
