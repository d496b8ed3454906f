use Rattle.std.proofs.Common.{refl}
use Rattle.chem_core.specs.Sorts.{bond_sorts}
use Rattle.chem_core.proofs.sort_counts.bond_sorts.Goals as goal

pub returns-clause-value : goal.returns-clause-value
unfolding bond_sorts
returns-clause-value c = refl
