use Rattle.chem_core.proofs.mol.Mol.classes.Goals as goal

pub returns : goal.returns
returns c = rw (← c.self.view_is, c.classes.ensures) c.self.invariant.coded.classes
