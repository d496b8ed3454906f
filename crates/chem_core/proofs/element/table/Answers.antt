use Rattle.std.proofs.Common.{refl}
use Rattle.chem_core.specs.Element.{symbols}
use Rattle.chem_core.proofs.element.table.Goals as goal

pub returns-clause-value : goal.returns-clause-value
unfolding symbols
returns-clause-value c = refl

pub returns-clause-count : goal.returns-clause-count
returns-clause-count c = refl
