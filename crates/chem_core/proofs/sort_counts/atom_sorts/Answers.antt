use Rattle.std.proofs.Common.{refl}
use Rattle.chem_core.specs.Sorts.{atom_sorts}
use Rattle.chem_core.proofs.sort_counts.atom_sorts.Goals as goal

pub returns-clause-value : goal.returns-clause-value
unfolding atom_sorts
returns-clause-value c = refl
