use Rattle.std.proofs.Common.{refl}
use Rattle.aromatic.specs.Electrons.{rows}
use Rattle.aromatic.proofs.table.table.Goals as goal

pub returns : goal.returns
unfolding rows
returns c = refl
