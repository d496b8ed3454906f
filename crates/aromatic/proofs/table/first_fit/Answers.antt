use Rattle.std.proofs.Common.{sym, ◌∙◌}
use Rattle.aromatic.proofs.Finds.{find-here, find-later, find-past}
use Rattle.aromatic.proofs.table.first_fit.Goals as goal

pub returns-then-fits : goal.returns-then-fits
returns-then-fits c = find-here _ _ _ _ c.loop-row-test.true c.loop-row.invariant (sym c.fits.ensures ∙ c.if-fits.true)

pub loop-row-preserved : goal.loop-row-preserved
loop-row-preserved c = find-later _ _ _ _ c.loop-row-test.true c.loop-row.invariant (sym c.fits.ensures
    ∙ c.if-fits.false)

pub returns : goal.returns
returns c = find-past _ _ _ c.loop-row-test.false c.loop-row.invariant
