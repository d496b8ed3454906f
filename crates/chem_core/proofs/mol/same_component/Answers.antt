use Rattle.chem_core.proofs.Components.{component_same}
use Rattle.chem_core.proofs.mol.same_component.Goals as goal

pub returns : goal.returns
returns c = component_same
