use Rattle.aromatic.proofs.Rows.{row-once}
use Rattle.aromatic.proofs.table.one_row.Goals as goal

pub returns : goal.returns
returns c environment i j d hi hj one other = row-once environment i j d hi hj one other
