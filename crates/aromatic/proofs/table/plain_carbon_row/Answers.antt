use Rattle.aromatic.proofs.PlainCarbons.{carbon_fits, carbon_past}
use Rattle.aromatic.proofs.table.plain_carbon_row.Goals as goal

pub returns-then-fits : goal.returns-then-fits
returns-then-fits c = carbon_fits _ _ c.requires.number c.requires.charge c.requires.inner c.requires.outer
    c.fits.ensures c.if-fits.true

pub returns-else-fits : goal.returns-else-fits
returns-else-fits c = carbon_past _ _ c.requires.number c.requires.charge c.requires.inner c.requires.outer
    c.fits.ensures c.if-fits.false
