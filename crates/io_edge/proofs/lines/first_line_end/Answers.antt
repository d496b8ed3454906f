use Rattle.std.proofs.Common.{sym, drop}
use Rattle.std.proofs.lemmas.List.{take_rest}
use Rattle.io_edge.proofs.Cuts.{no_lf, no_lf_joined, ends_behind}
use Rattle.io_edge.proofs.lines.first_line_end.Goals as goal

pub returns-in_err-at-clause-none : goal.returns-in_err-at-clause-none
returns-in_err-at-clause-none c =
    let none = no_lf (drop c.args.from c.args.bytes.now) (rw take_rest at (sym c.in_err-at.ensures)) in
    rw c.from_residual.ensures (no_lf_joined c.args.bytes.now c.args.from c.requires.scanned none)

pub returns-clause-some : goal.returns-clause-some
returns-clause-some c =
    ends_behind c.args.bytes.now c.args.from c.in_ok-at.at c.requires.within c.requires.scanned
    (rw take_rest at (sym c.in_ok-at.ensures))
