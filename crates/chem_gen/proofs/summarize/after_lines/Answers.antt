use Rattle.std.proofs.Common.{suc, drop, sym, ap, ◌∙◌, arith}
use Rattle.chem_gen.specs.Summary.{lines_of, endings_in}
use Rattle.chem_gen.proofs.Cuts.{skip-cut}
use Rattle.chem_gen.proofs.summarize.after_lines.Goals as goal

pub loop-preserved : goal.loop-preserved
loop-preserved c = λ n e.
    ap (λ rest. endings_in (drop n (lines_of rest))) c.cut.ensures.after
    ∙ sym (skip-cut n c.loop.rest.now)
    ∙ c.loop.invariant (suc n) (omega arith)

pub returns : goal.returns
returns c = c.loop.invariant 0 (omega arith)
